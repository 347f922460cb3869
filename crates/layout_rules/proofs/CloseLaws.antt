-- Closing: the passes put together.
use Rattle.std.specs.Prelude.{◌<◌, ◌≤◌, ◌==◌, ◌&&◌, if◌then◌else◌, Option, Some, None, is_none, is_some, option_map, option_to_list, slice_get, unwrap_or, Ok, Err}
use Rattle.std.specs.List.{find, list_all, list_any}
use Rattle.std.specs.Option.{IsSome}
use Rattle.std.proofs.Common.{◌≡◌, ℕ, ◌+◌, List, [], ◌∷◌, ◌++◌, Bool, true, false, not, cond, filter, length, take, drop, get_or, inl, inr, refl, sym, ap, ◌∙◌, subst, arith}
use Rattle.std.proofs.lemmas.Bool.{and_from, and_parts, eq-eqb, false≢true, ne_eqb, false_from_ne_true}
use Rattle.std.proofs.lemmas.List.{append_assoc, append-nil, drop_more, reverse-reverse, take-append-drop, take_more}
use mathlib.Core.List.{reverse}
use Rattle.par_base.specs.declared.fault.Fault.{Fault}
use Rattle.par_base.specs.declared.fault.Fault.TheVariants.{Refused, Memory}
use Rattle.par_base.specs.declared.limits.Target.{Target}
use Rattle.par_base.specs.declared.refusal.Refusal.{Refusal}
use Rattle.version_graph.specs.Sets.{In, Each}
use Rattle.version_graph.specs.Tables.{TableVersion}
use Rattle.version_graph.specs.Edges.{AreEdges, Drawn, Rises, heading_of, is_in, made, numbers, set_named}
use Rattle.version_graph.specs.Forest.{Link, forest, tree}
use Rattle.version_graph.specs.declared.parts.Placed.{Placed}
use Rattle.version_graph.proofs.SetLaws.{each_at, each_of, in_of_test, is_in_true, origin}
use Rattle.version_graph.proofs.NodeLaws.{find_append, find_past}
use Rattle.version_graph.proofs.TableLaws.{passes, rises_above}
use Rattle.version_graph.proofs.TakenLaws.{found_passes, some_found}
use Rattle.version_graph.proofs.WalkLaws.{is_forest}
use Rattle.version_graph.proofs.WalkStepLaws.{in_reverse}
use Rattle.layout_rules.specs.Layouts.{IsStored, Lives}
use Rattle.layout_rules.specs.Closing.{Closes, IsClosed, IsIn, IsNeeded, IsShared, NoneIsShared, StoresTarget, first_unknown, is_unknown, named_tables, named_trees, tables_of}
use Rattle.layout_rules.specs.Calls.{AddsTables, KnowsTables, SharesNone, StoresAll, TellsTarget}
use Rattle.layout_rules.specs.Passes.{needed}
use Rattle.layout_rules.specs.Lookups.{in_trees, is_shared, is_stored, numbers_up, sources_or_none, stays, stores_found, tables_along, tables_up, takes, takes_too}
use Rattle.layout_rules.specs.declared.layout.Layout.{Layout}
use Rattle.layout_rules.proofs.LinkLaws.{source_made, target_link}
use Rattle.layout_rules.proofs.ChangeLaws.{filter_in, link_number, number_lives}
use Rattle.layout_rules.proofs.NeededLaws.{found_has, found_needed}
use Rattle.layout_rules.proofs.LookupLaws.{all_at, all_true, any_at, any_true, not_off, source_link, sources_link, stored_test, stored_told}
use Rattle.layout_rules.proofs.PassLaws.{along_both, reverse_next, rises_both, rises_filter, tables_rise, take_next, target_up, up_made}

-- ---- targets in their order

module _ {X : Type 0} (xs : List X) (i : ℕ) (x : X) (within : i < length xs) (is : x ≡ get_or xs i x) where
  item_next : take (i + 1) xs ≡ take i xs ++ x ∷ []
  item_next = take_more xs i x within ∙ ap (λ (y : X). take i xs ++ y ∷ []) (sym is)

  item_split : xs ≡ take i xs ++ x ∷ drop (i + 1) xs
  item_split = sym (take-append-drop i xs) ∙ ap (λ (l : List X). take i xs ++ l) (drop_more xs i x within ∙ ap (λ (y : X). y ∷ drop (i + 1) xs) (sym is))

  -- the first that passes a test
  first_found : (test : X → Bool) → find test (take i xs) ≡ None → test x ≡ true → find test xs ≡ Some x
  first_found test none passes =
      ap (find test) item_split ∙ find_past test (take i xs) (x ∷ drop (i + 1) xs) none ∙ ap (λ (b : Bool). cond b (Some x) (find test (drop (i + 1) xs))) passes

  none_found : (test : X → Bool) → find test (take i xs) ≡ None → test x ≡ false → find test (take (i + 1) xs) ≡ None
  none_found test none fails = ap (find test) item_next ∙ find_past test (take i xs) (x ∷ []) none ∙ ap (λ (b : Bool). cond b (Some x) None) fails

module _ {O : Type 0} (g : Drawn O) where
  trees_both : (xs ys : List Target) → named_trees g (xs ++ ys) ≡ named_trees g xs ++ named_trees g ys
  trees_both [] ys = refl
  trees_both (x ∷ xs) ys =
      let here = option_to_list (option_map (tree (forest g.edges)) (set_named g.versions x.version)) in
      ap (λ (l : List ℕ). here ++ l) (trees_both xs ys) ∙ sym (append_assoc here (named_trees g xs) (named_trees g ys))

  tables_both : (xs ys : List Target) → named_tables g (xs ++ ys) ≡ named_tables g xs ++ named_tables g ys
  tables_both [] ys = refl
  tables_both (x ∷ xs) ys =
      let here = unwrap_or (tables_of g x) [] in
      ap (λ (l : List ℕ). here ++ l) (tables_both xs ys) ∙ sym (append_assoc here (named_tables g xs) (named_tables g ys))

  module _ (named : List Target) (i : ℕ) (target : Target) (within : i < length named) (is : target ≡ get_or named i target) where
    pub trees_next : (so_far more : List ℕ) → so_far ≡ named_trees g (take i named) → more ≡ so_far ++ option_to_list (option_map (tree (forest g.edges)) (set_named g.versions target.version)) → more ≡ named_trees g (take (i + 1) named)
    trees_next so_far more done m =
        let here = option_to_list (option_map (tree (forest g.edges)) (set_named g.versions target.version)) in
        m ∙ ap (λ (l : List ℕ). l ++ here) done
        ∙ sym (ap (λ (l : List Target). named_trees g l) (item_next named i target within is) ∙ trees_both (take i named) (target ∷ []) ∙ ap (λ (l : List ℕ). named_trees g (take i named) ++ l) (append-nil here))

    pub tables_more : (so_far more ts : List ℕ) → so_far ≡ named_tables g (take i named) → tables_of g target ≡ Some ts → more ≡ so_far ++ ts → more ≡ named_tables g (take (i + 1) named)
    tables_more so_far more ts done found m =
        m ∙ ap (λ (l : List ℕ). l ++ ts) done
        ∙ sym (ap (λ (l : List Target). named_tables g l) (item_next named i target within is) ∙ tables_both (take i named) (target ∷ [])
        ∙ ap (λ (l : List ℕ). named_tables g (take i named) ++ l) (append-nil (unwrap_or (tables_of g target) []) ∙ ap (λ (o : Option (List ℕ)). unwrap_or o []) found))

    pub known_more : (ts : List ℕ) → first_unknown g (take i named) ≡ None → tables_of g target ≡ Some ts → first_unknown g (take (i + 1) named) ≡ None
    known_more ts none found = none_found named i target within is (is_unknown g) none (ap (λ (o : Option (List ℕ)). is_none o) found)

    pub add_refused : (old new : List ℕ) (fault : Fault Refusal) → first_unknown g (take i named) ≡ None → AddsTables g target old new (Err fault) → KnowsTables g named (Err fault)
    add_refused old new (Refused r) none adds = (target, first_found named i target within is (is_unknown g) none (ap (λ (o : Option (List ℕ)). is_none o) adds.0), adds.1)
    add_refused old new (Memory memory) none adds = tt

    pub unstored_here : (layout : List ℕ) (fault : Fault Refusal) → list_all (stores_found g layout) (take i named) ≡ true → stores_found g layout target ≡ false → TellsTarget target fault → StoresAll g layout named (Err fault)
    unstored_here layout (Refused r) done fails tells = (take i named, target, drop (i + 1) named, item_split named i target within is, done, fails, tells)
    unstored_here layout (Memory memory) done fails tells = tt

-- ---- the first shared table

is_nothing : {X : Type 0} (o : Option X) → is_some o ≡ false → o ≡ None
is_nothing None h = refl
is_nothing (Some x) h = absurd (false≢true (sym h))

module _ {O : Type 0} (test : ℕ → Bool) (xs : List (Placed O)) (i : ℕ) (none : find test (tables_along (take i xs)) ≡ None) where
  pub along_next : find test (tables_along (take (i + 1) xs)) ≡ find test (tables_along (option_to_list (slice_get xs i)))
  along_next =
      ap (λ (l : List (Placed O)). find test (tables_along l)) (take_next xs i (slice_get xs i) refl) ∙ ap (find test) (along_both (take i xs) (option_to_list (slice_get xs i)))
      ∙ find_past test (tables_along (take i xs)) (tables_along (option_to_list (slice_get xs i))) none

  pub along_found : (o : Option ℕ) → o ≡ find test (tables_along (option_to_list (slice_get xs i))) → is_some o ≡ true → o ≡ find test (tables_along xs)
  along_found None is h = absurd (false≢true h)
  along_found (Some t) is h =
      let front = tables_along (take (i + 1) xs) in
      sym (ap (λ (l : List (Placed O)). find test (tables_along l)) (sym (take-append-drop (i + 1) xs)) ∙ ap (find test) (along_both (take (i + 1) xs) (drop (i + 1) xs))
      ∙ find_append test front (tables_along (drop (i + 1) xs)) t (along_next ∙ sym is))

  pub along_none : (o : Option ℕ) → o ≡ find test (tables_along (option_to_list (slice_get xs i))) → is_some o ≡ false → find test (tables_along (take (i + 1) xs)) ≡ None
  along_none o is h = along_next ∙ sym is ∙ is_nothing o h

-- the first of ascending numbers is the least
first_least : (test : ℕ → Bool) (n : ℕ) (xs : List ℕ) → Rises n xs → (t : ℕ) → find test xs ≡ Some t → (u : ℕ) → In u xs → test u ≡ true → t ≤ u
first_least test n [] rise t found u i h = absurd i
first_least test n (x ∷ xs) rise t found u i h =
    (elim (test x) as (λ b. test x ≡ b → cond b (Some x) (find test xs) ≡ Some t → t ≤ u) [
      | true ↦ λ is f. (let same : x ≡ t = cc in elim i as (λ _. t ≤ u) [ inl e ↦ omega arith | inr j ↦ (let less = rises_above x xs rise.1 u j in omega arith) ])
      | false ↦ λ is f. elim i as (λ _. t ≤ u) [ inl e ↦ absurd (false≢true (sym is ∙ ap test (sym e) ∙ h)) | inr j ↦ first_least test x xs rise.1 t f u j h ]
    ]) refl found

module _ {O : Type 0} where
  pub heading_known : (es : List (Placed O)) → AreEdges es → (test : ℕ → Bool) (t : ℕ) → Some t ≡ find test (tables_up es) → IsSome (heading_of es t)
  heading_known es edges test t found =
      let listed = (found_passes test (tables_up es) t (sym found)).0 in
      let v = origin (λ (v : TableVersion). v.number) t (made es) (up_made es edges t listed) in
      let u = some_found (λ (v : TableVersion). t == v.number) (made es) v.0 v.1 (eq-eqb t v.0.number v.2) in
      ap (λ (o : Option TableVersion). is_some (option_map (λ (v : TableVersion). v.heading) o)) u.1

  pub numbers_rise : (es : List (Placed O)) → AreEdges es → Rises 0 (numbers_up es)
  numbers_rise [] edges = tt
  numbers_rise (e ∷ es) edges =
      let less = edges.0.newest 0 (inl refl) in
      subst (λ (l : List ℕ). Rises 0 l) (sym (reverse_next e.number (numbers es)))
      (rises_both 0 (numbers_up es) (e.number ∷ []) (numbers_rise es edges.1) (less, tt) (λ y j. elim j as (λ _. 0 < y) [ inl same ↦ omega arith | inr none ↦ absurd none ])
      (λ x y i j. elim j as (λ _. x < y) [
        | inl same ↦ (let newest = edges.0.newest x (inr (subst (λ (l : List ℕ). In x l) (reverse-reverse (numbers es)) (in_reverse x (reverse (numbers es)) i))) in omega arith)
        | inr none ↦ absurd none
      ]))

  -- ---- the new layout

  module _ (es : List (Placed O)) (edges : AreEdges es) (trees tables layout wanted : List ℕ) (is : wanted ≡ needed (in_trees es trees) (forest es) tables) where
    abbrev links : Rattle.version_graph.proofs.WalkLaws.IsForest (forest es)
    links = is_forest es edges

    wanted_needed : (n : ℕ) → In n wanted → IsNeeded (forest es) trees tables n
    wanted_needed n i = found_needed (forest es) links trees tables n (subst (λ (l : List ℕ). In n l) is i)

    needed_wanted : (n : ℕ) → IsNeeded (forest es) trees tables n → In n wanted
    needed_wanted n need = subst (λ (l : List ℕ). In n l) (sym is) (need (needed (in_trees es trees) (forest es) tables) (found_has (forest es) links trees tables))

    stays_in : (n : ℕ) → IsIn (forest es) trees n → stays es trees wanted layout n ≡ is_in n wanted
    stays_in n own = ap (λ (b : Bool). if b then is_in n wanted else is_in n layout) (is_in_true (tree (forest es) n) trees own)

    stays_out : (n : ℕ) → (IsIn (forest es) trees n → ⊥) → stays es trees wanted layout n ≡ is_in n layout
    stays_out n other = ap (λ (b : Bool). if b then is_in n wanted else is_in n layout) (false_from_ne_true (in_trees es trees n) (λ h. other (in_of_test (tree (forest es) n) trees h)))

    abbrev new : List ℕ
    new = filter (stays es trees wanted layout) (numbers_up es)

    listed : (n : ℕ) → Lives (forest es) n → In n (numbers_up es)
    listed n l = in_reverse n (numbers es) (subst (λ (k : ℕ). In k (numbers es)) (sym l.2) (link_number es l.0 l.1))

    lives : (n : ℕ) → In n new → Lives (forest es) n
    lives n i = number_lives es n (subst (λ (l : List ℕ). In n l) (reverse-reverse (numbers es)) (in_reverse n (reverse (numbers es)) (Rattle.version_graph.proofs.TableLaws.in_filter (stays es trees wanted layout) n (numbers_up es) i)))

    pub is_closed : IsClosed (forest es) trees tables layout (filter (stays es trees wanted layout) (numbers_up es))
    is_closed = record {
      ascending = rises_filter (stays es trees wanted layout) 0 (numbers_up es) (numbers_rise es edges);
      named = λ n own. (
        (λ i. wanted_needed n (in_of_test n wanted (sym (stays_in n own) ∙ passes (stays es trees wanted layout) n (numbers_up es) i))),
        (λ need. filter_in (stays es trees wanted layout) n (numbers_up es) (listed n (Rattle.layout_rules.proofs.NeededLaws.needed_lives (forest es) links trees tables n need)) (stays_in n own ∙ is_in_true n wanted (needed_wanted n need))),
      );
      others = λ n other. (
        (λ i. (in_of_test n layout (sym (stays_out n other) ∙ passes (stays es trees wanted layout) n (numbers_up es) i), lives n i)),
        (λ both. filter_in (stays es trees wanted layout) n (numbers_up es) (listed n both.1) (stays_out n other ∙ is_in_true n layout both.0)),
      );
    }

    -- ---- shared tables

    takes_link : (t : ℕ) (e : Link O) → In e (forest es) → In t e.sources → takes es t e.number ≡ true
    takes_link t e i a = is_in_true t (sources_or_none es e.number) (subst (λ (l : List ℕ). In t l) (sym (sources_link es edges e i)) a)

    shared_test : (t : ℕ) → IsShared (forest es) trees tables t → is_shared es wanted t ≡ true
    shared_test t s =
        any_true (λ n. takes es t n && list_any (takes_too es t n) wanted) wanted s.0.number (needed_wanted s.0.number s.4)
        (and_from (takes es t s.0.number) (list_any (takes_too es t s.0.number) wanted) (takes_link t s.0 s.2 s.7)
        (any_true (takes_too es t s.0.number) wanted s.1.number (needed_wanted s.1.number s.5)
        (and_from (not (s.0.number == s.1.number)) (takes es t s.1.number) (ap not (ne_eqb s.0.number s.1.number s.6)) (takes_link t s.1 s.3 s.8))))

    pub shared_told : (t : ℕ) → is_shared es wanted t ≡ true → IsShared (forest es) trees tables t
    shared_told t h =
        let a = any_at (λ n. takes es t n && list_any (takes_too es t n) wanted) wanted h in
        let p = and_parts (takes es t a.0) (list_any (takes_too es t a.0) wanted) a.2 in
        let b = any_at (takes_too es t a.0) wanted p.1 in
        let q = and_parts (not (a.0 == b.0)) (takes es t b.0) b.2 in
        let e = source_link es a.0 t (in_of_test t (sources_or_none es a.0) p.0) in
        let f = source_link es b.0 t (in_of_test t (sources_or_none es b.0) q.1) in (
          e.0,
          f.0,
          e.1,
          f.1,
          wanted_needed e.0.number (subst (λ (k : ℕ). In k wanted) e.2 a.1),
          wanted_needed f.0.number (subst (λ (k : ℕ). In k wanted) f.2 b.1),
          (λ same. not_off (a.0 == b.0) q.0 (eq-eqb a.0 b.0 (e.2 ∙ same ∙ sym f.2))),
          e.3,
          f.3,
        )

    shared_listed : (t : ℕ) → IsShared (forest es) trees tables t → In t (tables_up es)
    shared_listed t s = let f = target_link (forest es) t (source_made (forest es) s.0 t links s.2 s.7) in target_up es f.0 t f.1 f.2

    pub none_shared : find (is_shared es wanted) (tables_up es) ≡ None → NoneIsShared (forest es) trees tables
    none_shared none t s =
        let u = some_found (is_shared es wanted) (tables_up es) t (shared_listed t s) (shared_test t s) in
        let clash : Some u.0 ≡ None = sym u.1 ∙ none in
        cc

    pub least_shared : (t : ℕ) → find (is_shared es wanted) (tables_up es) ≡ Some t → IsShared (forest es) trees tables t × ((u : ℕ) → IsShared (forest es) trees tables u → t ≤ u)
    least_shared t found = (
      shared_told t (found_passes (is_shared es wanted) (tables_up es) t found).1,
      (λ u s. first_least (is_shared es wanted) 0 (tables_up es) (tables_rise es edges) t found u (shared_listed u s) (shared_test u s)),
    )

-- ---- what closing answers

module _ {O : Type 0} (g : Drawn O) (layout : List ℕ) (named : List Target) where
  pub close_unknown : (fault : Fault Refusal) → KnowsTables g named (Err fault) → Closes g layout named (Err fault)
  close_unknown (Refused r) knows = inl knows
  close_unknown (Memory memory) knows = tt

  module _ (edges : AreEdges g.edges) (known : first_unknown g named ≡ None) (wanted : List ℕ) (is : wanted ≡ needed (in_trees g.edges (named_trees g named)) (forest g.edges) (named_tables g named)) where
    pub close_shared : (fault : Fault Refusal) → SharesNone g wanted (Err fault) → Closes g layout named (Err fault)
    close_shared (Refused r) shares =
        let l = least_shared g.edges edges (named_trees g named) (named_tables g named) layout wanted is shares.0 shares.1 in
        inr (inl (known, (shares.0, shares.2.0, l.0, l.1, shares.2.1, shares.2.2)))
    close_shared (Memory memory) shares = tt

    module _ (alone : find (is_shared g.edges wanted) (tables_up g.edges) ≡ None) (new : List ℕ) (made : new ≡ filter (stays g.edges (named_trees g named) wanted layout) (numbers_up g.edges)) where
      closed : IsClosed (forest g.edges) (named_trees g named) (named_tables g named) layout new
      closed = subst (λ (l : List ℕ). IsClosed (forest g.edges) (named_trees g named) (named_tables g named) layout l) (sym made) (is_closed g.edges edges (named_trees g named) (named_tables g named) layout wanted is)

      none : NoneIsShared (forest g.edges) (named_trees g named) (named_tables g named)
      none = none_shared g.edges edges (named_trees g named) (named_tables g named) layout wanted is alone

      stored_so : (target : Target) → stores_found g new target ≡ true → StoresTarget g new target
      stored_so target h =
          let ts = unwrap_or (tables_of g target) [] in
          each_of (IsStored (forest g.edges) new) ts (λ t i. stored_told g.edges edges new t (all_at (is_stored g.edges new) ts h t i))

      stored_back : (target : Target) → StoresTarget g new target → stores_found g new target ≡ true
      stored_back target s =
          let ts = unwrap_or (tables_of g target) [] in
          all_true (is_stored g.edges new) ts (λ t i. stored_test g.edges edges new t (each_at (IsStored (forest g.edges) new) ts t i s))

      all_so : (targets : List Target) → list_all (stores_found g new) targets ≡ true → Each (StoresTarget g new) targets
      all_so targets h = each_of (StoresTarget g new) targets (λ t i. stored_so t (all_at (stores_found g new) targets h t i))

      pub close_unstored : (fault : Fault Refusal) → StoresAll g new named (Err fault) → Closes g layout named (Err fault)
      close_unstored (Refused r) stores =
          inr (inr (known, none, (new, stores.1, closed, (stores.0, stores.2, stores.3, all_so stores.0 stores.4, (λ s. false≢true (sym stores.5 ∙ stored_back stores.1 s))), stores.6)))
      close_unstored (Memory memory) stores = tt

      pub close_done : (told : Layout) → told.operators ≡ new → list_all (stores_found g new) named ≡ true → Closes g layout named (Ok told)
      close_done told same stores = (
        known,
        none,
        subst (λ (l : List ℕ). IsClosed (forest g.edges) (named_trees g named) (named_tables g named) layout l) (sym same) closed,
        subst (λ (l : List ℕ). Each (StoresTarget g l) named) (sym same) (all_so named stores),
      )

-- the passes over equal lists
pub wanted_is : {O : Type 0} (es : List (Placed O)) (trees named tables others wanted : List ℕ) → wanted ≡ needed (in_trees es named) (forest es) others → named ≡ trees → others ≡ tables → wanted ≡ needed (in_trees es trees) (forest es) tables
wanted_is es trees named tables others wanted is a b =
    is ∙ ap (λ (l : List ℕ). needed (in_trees es l) (forest es) others) a ∙ ap (λ (l : List ℕ). needed (in_trees es trees) (forest es) l) b

pub new_is : {O : Type 0} (es : List (Placed O)) (trees named wanted some layout old new : List ℕ) → new ≡ filter (stays es named some old) (numbers_up es) → named ≡ trees → some ≡ wanted → old ≡ layout → new ≡ filter (stays es trees wanted layout) (numbers_up es)
new_is es trees named wanted some layout old new is a b c =
    is ∙ ap (λ (l : List ℕ). filter (stays es l some old) (numbers_up es)) a ∙ ap (λ (l : List ℕ). filter (stays es trees l old) (numbers_up es)) b ∙ ap (λ (l : List ℕ). filter (stays es trees wanted l) (numbers_up es)) c
