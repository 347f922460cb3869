-- MATERIALIZE of a version is never refused: what it needs stands on one way up.
use Rattle.std.specs.Prelude.{◌==◌, not, Option, Some, None, is_none, unwrap_or, option_map, option_and_then, option_to_list, Ok, Err, find}
use Rattle.std.specs.List.{list_all}
use Rattle.std.specs.Option.{IsSome}
use Rattle.std.proofs.Common.{◌≡◌, ℕ, List, [], ◌∷◌, ◌++◌, Bool, true, false, cond, inl, inr, refl, sym, ap, ◌∙◌, subst, arith}
use Rattle.std.proofs.lemmas.Bool.{cond-false, cond-true, eq-eqb, false≢true, ne_eqb}
use Rattle.std.proofs.lemmas.List.{append-nil, reverse-reverse}
use mathlib.Core.List.{reverse}
use Rattle.par_base.specs.declared.limits.Target.{Target}
use Rattle.par_base.specs.declared.refusal.Refusal.{Refusal}
use Rattle.version_graph.specs.Sets.{Apart, In}
use Rattle.version_graph.specs.Tables.{table_numbers}
use Rattle.version_graph.specs.Edges.{AreEdges, Drawn, IsGraph, is_in, numbers, set_named, working}
use Rattle.version_graph.specs.Forest.{Crossing, Link, crossed, crossing, forest, minus, rest, tables_in, tree, up, walk}
use Rattle.version_graph.specs.Laws.{Leaves, Ordered}
use Rattle.version_graph.specs.declared.parts.Placed.{Placed}
use Rattle.version_graph.proofs.SetLaws.{each_at, in_append, in_left, in_map, in_right, origin}
use Rattle.version_graph.proofs.TableLaws.{in_filter, passes}
use Rattle.version_graph.proofs.TreeLaws.{walk_in_tree}
use Rattle.version_graph.proofs.WalkLaws.{IsForest, is_forest, sets_linked, walk_in_order, walk_leaves_set}
use Rattle.version_graph.proofs.WalkStepLaws.{in_reverse}
use Rattle.layout_rules.specs.Changes.{is_empty}
use Rattle.layout_rules.specs.Closed.{closed_layout, closing, first_shared, first_unstored, or_else, tells_table, tells_target, unless, wanted}
use Rattle.layout_rules.specs.Closing.{HasNeeded, IsClosed, IsIn, IsNeeded, NoneIsShared, first_unknown, named_tables, named_trees, tables_of}
use Rattle.layout_rules.specs.Layouts.{IsCreate, IsStored, IsValid}
use Rattle.layout_rules.specs.Lookups.{is_shared, is_stored, numbers_up, sources_or_none, stores_found, tables_up}
use Rattle.layout_rules.proofs.ChangeLaws.{filter_in, link_number, number_lives}
use Rattle.layout_rules.proofs.CloseLaws.{is_closed, least_shared}
use Rattle.layout_rules.proofs.LinkLaws.{number_listed, same_link, same_maker}
use Rattle.layout_rules.proofs.LookupLaws.{all_true, sources_link, stored_test}
use Rattle.layout_rules.proofs.NeededLaws.{closed_valid}
use Rattle.layout_planner.specs.Costs.{creates, layout_for, whole}

-- ---- the way up

module _ {O : Type 0} where
  abbrev Makes : List (Crossing O) → ℕ → Type 0
  Makes ps t = (p : Crossing O) × In p ps × In t p.near

  -- the tables of a working set were made on the way up from it
  set_made : (es : List (Link O)) (w t : ℕ) → In t (tables_in es w) → Makes (up es w) t
  set_made [] w t i = absurd i
  set_made (e ∷ es) w t i =
      (elim (w == e.number) as (λ b. In t (cond b (minus (tables_in es e.parent) e.sources ++ e.targets) (tables_in es w)) → Makes (cond b (crossing true e ∷ up es e.parent) (up es w)) t) [
        | true ↦ λ j. elim (in_append t (minus (tables_in es e.parent) e.sources) e.targets j) as (λ _. Makes (crossing true e ∷ up es e.parent) t) [
          | inl k ↦ (let m = set_made es e.parent t (in_filter (λ y. not (is_in y e.sources)) t (tables_in es e.parent) k) in (m.0, inr m.1, m.2))
          | inr k ↦ (crossing true e, inl refl, k)
        ]
        | false ↦ λ j. set_made es w t j
      ]) i

  -- and so were the sources of its operators
  source_made : (es : List (Link O)) → IsForest es → (w t : ℕ) (p : Crossing O) → In p (up es w) → In t p.far → Makes (up es w) t
  source_made [] forest w t p i a = absurd i
  source_made (e ∷ es) forest w t p i a =
      (elim (w == e.number) as (λ b. In p (cond b (crossing true e ∷ up es e.parent) (up es w)) → Makes (cond b (crossing true e ∷ up es e.parent) (up es w)) t) [
        | true ↦ λ j. elim j as (λ _. Makes (crossing true e ∷ up es e.parent) t) [
          | inl same ↦ (let m = set_made es e.parent t (forest.0.within t (subst (λ (q : Crossing O). In t q.far) same a)) in (m.0, inr m.1, m.2))
          | inr k ↦ (let m = source_made es forest.1 e.parent t p k a in (m.0, inr m.1, m.2))
        ]
        | false ↦ λ j. source_made es forest.1 w t p j a
      ]) i

  -- a crossing of the way up is that of an operator
  up_link : (es : List (Link O)) (w : ℕ) (p : Crossing O) → In p (up es w) → (e : Link O) × In e es × (p ≡ crossing true e)
  up_link [] w p i = absurd i
  up_link (e ∷ es) w p i =
      (elim (w == e.number) as (λ b. In p (cond b (crossing true e ∷ up es e.parent) (up es w)) → (f : Link O) × In f (e ∷ es) × (p ≡ crossing true f)) [
        | true ↦ λ j. elim j as (λ _. (f : Link O) × In f (e ∷ es) × (p ≡ crossing true f)) [
          | inl same ↦ (e, inl refl, same)
          | inr k ↦ (let m = up_link es e.parent p k in (m.0, inr m.1, m.2))
        ]
        | false ↦ λ j. (let m = up_link es w p j in (m.0, inr m.1, m.2))
      ]) i

  -- an operator is on the way up from its own working set
  own_up : (es : List (Link O)) → IsForest es → (e : Link O) → In e es → In (crossing true e) (up es e.number)
  own_up [] forest e i = absurd i
  own_up (x ∷ es) forest e (inl same) =
      subst (λ (l : List (Crossing O)). In (crossing true e) l) (sym (cond-true (e.number == x.number) (crossing true x ∷ up es x.parent) (up es e.number) (eq-eqb e.number x.number (ap (λ (y : Link O). y.number) same))))
      (inl (ap (crossing true) same))
  own_up (x ∷ es) forest e (inr i) =
      let less = forest.0.newest e.number (inr (number_listed es e i)) in
      subst (λ (l : List (Crossing O)). In (crossing true e) l) (sym (cond-false (e.number == x.number) (crossing true x ∷ up es x.parent) (up es e.number) (ne_eqb e.number x.number (λ same. omega arith))))
      (own_up es forest.1 e i)

  -- in order no two crossings have a far table in common
  far_once : (ps : List (Crossing O)) → Ordered ps → (p q : Crossing O) (t : ℕ) → In p ps → In q ps → In t p.far → In t q.far → p.number ≡ q.number
  far_once [] order p q t i j a b = absurd i
  far_once (x ∷ ps) order p q t (inl is) (inl at) a b = ap (λ (y : Crossing O). y.number) (is ∙ sym at)
  far_once (x ∷ ps) order p q t (inl is) (inr j) a b = absurd ((each_at (Leaves x) ps q j order.2).far t (subst (λ (y : Crossing O). In t y.far) is a) b)
  far_once (x ∷ ps) order p q t (inr i) (inl at) a b = absurd ((each_at (Leaves x) ps p i order.2).far t (subst (λ (y : Crossing O). In t y.far) at b) a)
  far_once (x ∷ ps) order p q t (inr i) (inr j) a b = far_once ps order.3 p q t i j a b

-- ---- CREATE TABLE operators

none_is : (xs : List ℕ) → is_empty xs ≡ true → xs ≡ []
none_is [] h = refl
none_is (x ∷ xs) h = absurd (false≢true h)

module _ {O : Type 0} (es : List (Placed O)) (edges : AreEdges es) where
  create_in : (e : Link O) → In e (forest es) → IsCreate e → In e.number (creates es)
  create_in e i none = filter_in (λ n. is_empty (sources_or_none es n)) e.number (numbers_up es) (in_reverse e.number (numbers es) (link_number es e i)) (ap is_empty (sources_link es edges e i ∙ none))

  in_create : (e : Link O) → In e (forest es) → In e.number (creates es) → IsCreate e
  in_create e i has = sym (sources_link es edges e i) ∙ none_is (sources_or_none es e.number) (passes (λ n. is_empty (sources_or_none es n)) e.number (numbers_up es) has)

  takes_none : (e : Link O) (t : ℕ) → In e (forest es) → In e.number (creates es) → In t e.sources → ⊥
  takes_none e t i has a = subst (λ (l : List ℕ). In t l) (in_create e i has) a

  -- they are a valid layout
  pub creates_valid : IsValid (forest es) (creates es)
  creates_valid = record {
    live = λ n i. number_lives es n (subst (λ (l : List ℕ). In n l) (reverse-reverse (numbers es)) (in_reverse n (reverse (numbers es)) (in_filter (λ n. is_empty (sources_or_none es n)) n (numbers_up es) i)));
    creates = create_in;
    makers = λ e i has t a. absurd (takes_none e t i has a);
    once = λ e f i j a b s. absurd (takes_none e s.0 i a s.1);
  }

-- ---- one working set

module _ {O : Type 0} (es : List (Placed O)) (edges : AreEdges es) (w : ℕ) where
  abbrev ups : List (Crossing O)
  ups = up (forest es) w

  abbrev all : List (Crossing O)
  all = walk (forest es) w

  abbrev tables : List ℕ
  tables = table_numbers (working es w)

  up_all : (p : Crossing O) → In p ups → In p all
  up_all p i = in_left p ups (rest (λ n. tree (forest es) n == tree (forest es) w) (forest es) w) i

  -- who made a table that the way up made is on it
  maker_up : (e : Link O) (t : ℕ) → In e (forest es) → In t e.targets → Makes ups t → In (crossing true e) ups
  maker_up e t i a m =
      let f = up_link (forest es) w m.0 m.1 in
      let same = same_maker (forest es) e f.0 t (is_forest es edges) i f.1 a (subst (λ (q : Crossing O). In t q.near) f.2 m.2) in
      subst (λ (x : Link O). In (crossing true x) ups) (sym same) (subst (λ (q : Crossing O). In q ups) f.2 m.1)

  number_up : (e : Link O) → In (crossing true e) ups → In e.number (crossed ups)
  number_up e i = in_map (λ (p : Crossing O). p.number) (crossing true e) ups i

  up_number : (e : Link O) → In e (forest es) → In e.number (crossed ups) → In (crossing true e) ups
  up_number e i has =
      let p = origin (λ (p : Crossing O). p.number) e.number ups has in
      let f = up_link (forest es) w p.0 p.1 in
      let same = same_link (forest es) e f.0 (is_forest es edges) i f.1 (p.2 ∙ ap (λ (q : Crossing O). q.number) f.2) in
      subst (λ (x : Link O). In (crossing true x) ups) (sym same) (subst (λ (q : Crossing O). In q ups) f.2 p.1)

  made_up : (t : ℕ) → In t tables → Makes ups t
  made_up t i = set_made (forest es) w t (subst (λ (l : List ℕ). In t l) (sym (sets_linked es edges w)) i)

  abbrev enough : List ℕ
  enough = creates es ++ crossed ups

  -- the CREATE TABLE operators and those on the way up are enough
  has_enough : (trees : List ℕ) → HasNeeded (forest es) trees tables enough
  has_enough trees = record {
    creates = λ e i own none. in_left e.number (creates es) (crossed ups) (create_in es edges e i none);
    makers = λ e i own t a b. in_right e.number (creates es) (crossed ups) (number_up e (maker_up e t i a (made_up t b)));
    sources = λ e f i j own has t a b. elim (in_append e.number (creates es) (crossed ups) has) as (λ _. In f.number enough) [
      | inl k ↦ absurd (takes_none es edges e t i k a)
      | inr k ↦ in_right f.number (creates es) (crossed ups) (number_up f (maker_up f t j b (source_made (forest es) (is_forest es edges) w t (crossing true e) (up_number e i k) a)))
    ];
  }

  -- so a needed operator that takes a table is on the way up
  needed_up : (trees : List ℕ) (e : Link O) (t : ℕ) → In e (forest es) → IsNeeded (forest es) trees tables e.number → In t e.sources → In (crossing true e) ups
  needed_up trees e t i need a =
      elim (in_append e.number (creates es) (crossed ups) (need enough (has_enough trees))) as (λ _. In (crossing true e) ups) [
        | inl k ↦ absurd (takes_none es edges e t i k a)
        | inr k ↦ up_number e i k
      ]

  none_shared : (trees : List ℕ) → NoneIsShared (forest es) trees tables
  none_shared trees t s =
      s.6 (far_once all (walk_in_order es edges w) (crossing true s.0) (crossing true s.1) t
      (up_all (crossing true s.0) (needed_up trees s.0 t s.2 s.4 s.7)) (up_all (crossing true s.1) (needed_up trees s.1 t s.3 s.5 s.8)) s.7 s.8)

  -- who makes a table of the working set is needed where its tree is named
  maker_needed : (trees : List ℕ) (e : Link O) (t : ℕ) → In (tree (forest es) w) trees → In e (forest es) → In t e.targets → In t tables → IsIn (forest es) trees e.number × IsNeeded (forest es) trees tables e.number
  maker_needed trees e t named i a b =
      let here = up_all (crossing true e) (maker_up e t i a (made_up t b)) in
      let own : IsIn (forest es) trees e.number = subst (λ (n : ℕ). In n trees) (sym (walk_in_tree es edges w e.number (in_map (λ (p : Crossing O). p.number) (crossing true e) all here))) named in
      (own, (λ layout has. has.makers e i own t a b))

-- ---- closing

-- who made a source of an operator is in its tree
pub maker_tree : {O : Type 0} (es : List (Placed O)) → AreEdges es → (e f : Link O) (t : ℕ) → In e (forest es) → In f (forest es) → In t e.sources → In t f.targets → tree (forest es) f.number ≡ tree (forest es) e.number
maker_tree es edges e f t i j a b =
    let own = source_made (forest es) (is_forest es edges) e.number t (crossing true e) (own_up (forest es) (is_forest es edges) e i) a in
    let here = up_all es edges e.number (crossing true f) (maker_up es edges e.number f t j b own) in
    walk_in_tree es edges e.number f.number (in_map (λ (p : Crossing _). p.number) (crossing true f) (walk (forest es) e.number) here)

module _ {O : Type 0} (es : List (Placed O)) (edges : AreEdges es) (w : ℕ) (trees layout new : List ℕ) (named : In (tree (forest es) w) trees) (closed : IsClosed (forest es) trees (table_numbers (working es w)) layout new) where
  -- closing stores all tables of the working set
  all_stored : (t : ℕ) → In t (table_numbers (working es w)) → IsStored (forest es) new t
  all_stored t b =
      let m = made_up es edges w t b in
      let f = up_link (forest es) w m.0 m.1 in
      let a = subst (λ (q : Crossing O). In t q.near) f.2 m.2 in
      let need = maker_needed es edges w trees f.0 t named f.1 a b in
      record { made = (f.0, f.1, (closed.named f.0.number need.0).1 need.1, a); free = λ taken. free f.0 f.1 a need.0 taken.0 taken.1 taken.2 taken.3 }
    where
      free : (f : Link O) → In f (forest es) → In t f.targets → IsIn (forest es) trees f.number → (e : Link O) → In e (forest es) → In e.number new → In t e.sources → ⊥
      free f j a own e i has c =
          let same = maker_tree es edges e f t i j c a in
          let inside : IsIn (forest es) trees e.number = subst (λ (n : ℕ). In n trees) same own in
          let here = needed_up es edges w trees e t i ((closed.named e.number inside).0 has) c in
          each_at (λ (p : Crossing O). Apart p.far (table_numbers (working es w))) (walk (forest es) w) (crossing true e) (up_all es edges w (crossing true e) here) (walk_leaves_set es edges w) t c b

-- ---- a version

not_found : (test : ℕ → Bool) (xs : List ℕ) → ((t : ℕ) → find test xs ≡ Some t → ⊥) → (o : Option ℕ) → find test xs ≡ o → find test xs ≡ None
not_found test xs none None is = is
not_found test xs none (Some t) is = absurd (none t is)

module _ {O : Type 0} (g : Drawn O) (graph : IsGraph g) (layout name : List ℕ) (w : ℕ) (is : set_named g.versions name ≡ Some w) where
  abbrev named : List Target
  named = whole name ∷ []

  abbrev wanted_tables : List ℕ
  wanted_tables = table_numbers (working g.edges w)

  its_tables : tables_of g (whole name) ≡ Some wanted_tables
  its_tables = ap (λ (o : Option ℕ). option_and_then (λ ts. Some ts) (option_map (λ v. table_numbers (working g.edges v)) o)) is

  pub its_trees : named_trees g named ≡ tree (forest g.edges) w ∷ []
  its_trees = ap (λ (o : Option ℕ). option_to_list (option_map (tree (forest g.edges)) o) ++ []) is

  all_tables : named_tables g named ≡ wanted_tables
  all_tables = ap (λ (o : Option (List ℕ)). unwrap_or o [] ++ []) its_tables ∙ append-nil wanted_tables

  known : first_unknown g named ≡ None
  known = ap (λ (o : Option (List ℕ)). cond (is_none o) (Some (whole name)) None) its_tables

  alone : NoneIsShared (forest g.edges) (named_trees g named) (named_tables g named)
  alone = subst (λ (ts : List ℕ). NoneIsShared (forest g.edges) (named_trees g named) ts) (sym all_tables) (none_shared g.edges graph.edges w (named_trees g named))

  abbrev made : List ℕ
  made = closed_layout g layout named

  shares_none : first_shared g named ≡ None
  shares_none =
      not_found (is_shared g.edges (wanted g named)) (tables_up g.edges)
      (λ t found. alone t (least_shared g.edges graph.edges (named_trees g named) (named_tables g named) layout (wanted g named) refl t found).0) (first_shared g named) refl

  pub closed : IsClosed (forest g.edges) (named_trees g named) (named_tables g named) layout made
  closed = is_closed g.edges graph.edges (named_trees g named) (named_tables g named) layout (wanted g named) refl

  stores : stores_found g made (whole name) ≡ true
  stores =
      ap (λ (o : Option (List ℕ)). list_all (is_stored g.edges made) (unwrap_or o [])) its_tables
      ∙ all_true (is_stored g.edges made) wanted_tables (λ t i. stored_test g.edges graph.edges made t
      (all_stored g.edges graph.edges w (named_trees g named) layout made (subst (λ (l : List ℕ). In (tree (forest g.edges) w) l) (sym its_trees) (inl refl))
      (subst (λ (ts : List ℕ). IsClosed (forest g.edges) (named_trees g named) ts layout made) all_tables closed) t i))

  unstored : first_unstored g layout named ≡ None
  unstored = ap (λ (b : Bool). cond (not b) (Some (whole name)) None) stores

  -- MATERIALIZE OF A VERSION IS NEVER REFUSED
  pub never_refused : closing g layout named ≡ Ok made
  never_refused =
      ap (λ (o : Option Refusal). unless o made)
      (ap (λ (o : Option Target). or_else (option_map tells_target o) (or_else (option_and_then (tells_table g) (first_shared g named)) (option_map tells_target (first_unstored g layout named)))) known
      ∙ ap (λ (o : Option ℕ). or_else (option_and_then (tells_table g) o) (option_map tells_target (first_unstored g layout named))) shares_none
      ∙ ap (λ (o : Option Target). option_map tells_target o) unstored)

  pub layout_valid : IsValid (forest g.edges) layout → IsValid (forest g.edges) made
  layout_valid valid =
      closed_valid (forest g.edges) (is_forest g.edges graph.edges) (named_trees g named) (named_tables g named) layout made valid closed alone

-- a named set
pub named_set : (versions : List (List ℕ × ℕ)) (name : List ℕ) → IsSome (set_named versions name) → (w : ℕ) × (set_named versions name ≡ Some w)
named_set versions name some = here (set_named versions name) refl some
  where
    here : (o : Option ℕ) → set_named versions name ≡ o → IsSome o → (w : ℕ) × (set_named versions name ≡ Some w)
    here None is h = absurd (false≢true h)
    here (Some w) is h = (w, is)

-- ---- what closing answers

module _ {O : Type 0} (g : Drawn O) (graph : IsGraph g) (name : List ℕ) (some : IsSome (set_named g.versions name)) (start : List ℕ) (target : Target) (begins : start ≡ creates g.edges) (names : target ≡ whole name) where
  answered : closing g start (target ∷ []) ≡ Ok (layout_for g name)
  answered =
      let w = named_set g.versions name some in
      ap (λ (l : List ℕ). closing g l (target ∷ [])) begins ∙ ap (λ (t : Target). closing g (creates g.edges) (t ∷ [])) names ∙ never_refused g graph (creates g.edges) name w.0 w.1

  pub closed_so : (layout : List ℕ) → closing g start (target ∷ []) ≡ Ok layout → layout ≡ layout_for g name
  closed_so layout is = let same = answered in let both : Ok layout ≡ Ok (layout_for g name) = sym is ∙ same in cc

  pub refused_never : (r : Refusal) → closing g start (target ∷ []) ≡ Err r → ⊥
  refused_never r is = let clash : Err r ≡ Ok (layout_for g name) = sym is ∙ answered in cc

  pub closed_so_valid : (layout : List ℕ) → closing g start (target ∷ []) ≡ Ok layout → IsValid (forest g.edges) layout
  closed_so_valid layout is =
      let w = named_set g.versions name some in
      subst (λ (l : List ℕ). IsValid (forest g.edges) l) (sym (closed_so layout is)) (layout_valid g graph (creates g.edges) name w.0 w.1 (creates_valid g.edges graph.edges))
