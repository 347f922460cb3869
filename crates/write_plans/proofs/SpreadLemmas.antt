-- What hangs together with a table is found.
use Rattle.std.specs.Prelude.{◌||◌}
use Rattle.std.proofs.Common.{◌≡◌, ℕ, ◌+◌, ◌<◌, ◌≤◌, List, [], ◌∷◌, ◌++◌, Bool, true, false, cond, length, filter, take, get_or, inl, inr, ◌⊎◌, refl, sym, ap, ◌∙◌, subst, arith}
use Rattle.std.specs.List.{list_any}
use Rattle.std.proofs.lemmas.Bool.{cond-false, cond-true, false≢true}
use Rattle.std.proofs.lemmas.List.{append-nil, take_more}
use Rattle.version_graph.specs.Sets.{Distinct, Each, In, Within}
use Rattle.version_graph.specs.Tables.{table_numbers}
use Rattle.version_graph.specs.Edges.{AreEdges, is_in, made, working}
use Rattle.version_graph.specs.Forest.{Crossing, Link, crossed, crossing, forest, tree as root_in, walk}
use Rattle.version_graph.specs.declared.parts.Placed.{Placed}
use Rattle.version_graph.proofs.SetLaws.{each_append, each_at, each_of, in_append, in_left, in_map, in_of_test, in_right, is_in_true, origin}
use Rattle.version_graph.proofs.TableLaws.{in_filter, passes}
use Rattle.version_graph.proofs.TakenLaws.{same_item}
use Rattle.version_graph.proofs.TreeLaws.{tree_in_walk, walk_in_tree}
use Rattle.version_graph.proofs.WalkLaws.{is_forest, sets_linked, walk_in_order}
use Rattle.storage_law.proofs.LinkLaws.{not_in_false}
use Rattle.layout_rules.proofs.ChangeLaws.{link_number}
use Rattle.layout_rules.proofs.LinkLaws.{same_link, target_listed}
use Rattle.version_model.proofs.CrossingLaws.{GoesOver, targets_linked, walk_goes_over}
use Rattle.version_model.proofs.TreeLaws.{MadeIn, one_tree, sources_in_tree, tables_in_tree, targets_in_tree, trees_together}
use Rattle.changes_walk.specs.Reach.{IsBeside, IsReach, reached}
use Rattle.write_plans.specs.Trees.{Adds, IsClosedAt, Spreads, SpreadsOver, missing, touched_of, touches}
use Rattle.write_plans.proofs.WholeLemmas.{crossed_apart, number_of}

-- ---- how many are missing

-- what is in the first is in the second
wider : (ns ms : List ℕ) → Within ns ms → (n : ℕ) → is_in n ns ≡ true → is_in n ms ≡ true
wider ns ms within n own = is_in_true n ms (within n (in_of_test n ns own))

pub no_more_missing : (all ns ms : List ℕ) → Within ns ms → missing all ms ≤ missing all ns
no_more_missing [] ns ms within = omega arith
no_more_missing (n ∷ all) ns ms within =
    let rest = no_more_missing all ns ms within in
    elim (is_in n ns) as (λ b. is_in n ns ≡ b → missing (n ∷ all) ms ≤ missing (n ∷ all) ns) [
      | true ↦ λ own. (let other = wider ns ms within n own in rw (own, other) rest)
      | false ↦ λ own.
          elim (is_in n ms) as (λ c. is_in n ms ≡ c → missing (n ∷ all) ms ≤ missing (n ∷ all) ns) [
            | true ↦ λ other. rw (own, other) (omega (arith, rest))
            | false ↦ λ other. rw (own, other) (omega (arith, rest))
          ]
          refl
    ]
    refl

pub fewer_missing : (all ns ms : List ℕ) → Within ns ms → (t : ℕ) → In t all → (In t ns → ⊥) → In t ms → missing all ms < missing all ns
fewer_missing [] ns ms within t i none has = absurd i
fewer_missing (n ∷ all) ns ms within t (inl same) none has =
    let rest = no_more_missing all ns ms within in
    let lacks : is_in n ns ≡ false = not_in_false n ns (λ j. none (subst (λ (k : ℕ). In k ns) (sym same) j)) in
    let owns : is_in n ms ≡ true = is_in_true n ms (subst (λ (k : ℕ). In k ms) same has) in
    rw (lacks, owns) (omega (arith, rest))
fewer_missing (n ∷ all) ns ms within t (inr i) none has =
    let rest = fewer_missing all ns ms within t i none has in
    elim (is_in n ns) as (λ b. is_in n ns ≡ b → missing (n ∷ all) ms < missing (n ∷ all) ns) [
      | true ↦ λ own. (let other = wider ns ms within n own in rw (own, other) rest)
      | false ↦ λ own.
          elim (is_in n ms) as (λ c. is_in n ms ≡ c → missing (n ∷ all) ms < missing (n ∷ all) ns) [
            | true ↦ λ other. rw (own, other) (omega (arith, rest))
            | false ↦ λ other. rw (own, other) (omega (arith, rest))
          ]
          refl
    ]
    refl

-- ---- tables are added

pub adds_none : (old : List ℕ) → Adds [] old old false
adds_none old = record { stay = λ n i. i; has = λ n i. absurd i; only = λ n i. inl i; same = λ e. refl; less = λ e. absurd (false≢true e) }

pub adds_old : (old : List ℕ) (t : ℕ) → is_in t old ≡ true → Adds (t ∷ []) old old false
adds_old old t own = record {
  stay = λ n i. i;
  has = λ n i. elim i as (λ _. In n old) [ inl same ↦ subst (λ (k : ℕ). In k old) (sym same) (in_of_test t old own) | inr none ↦ absurd none ];
  only = λ n i. inl i;
  same = λ e. refl;
  less = λ e. absurd (false≢true e);
}

pub adds_new : (old new : List ℕ) (t : ℕ) → is_in t old ≡ false → new ≡ old ++ t ∷ [] → Adds (t ∷ []) old new true
adds_new old new t other is = subst (λ (l : List ℕ). Adds (t ∷ []) old l true) (sym is) (record {
  stay = λ n i. in_left n old (t ∷ []) i;
  has = λ n i. in_right n old (t ∷ []) i;
  only = λ n i. in_append n old (t ∷ []) i;
  same = λ e. absurd (false≢true (sym e));
  less = λ e all within. fewer_missing all old (old ++ t ∷ []) (λ n i. in_left n old (t ∷ []) i) t (within t (inl refl)) (λ i. false≢true (sym other ∙ is_in_true t old i)) (in_right t old (t ∷ []) (inl refl));
})

either : (x y : Bool) → (x || y) ≡ true → (x ≡ true) ⊎ (y ≡ true)
either true y e = inl refl
either false y e = inr e

neither : (x y : Bool) → (x || y) ≡ false → (x ≡ false) × (y ≡ false)
neither true y e = absurd (false≢true (sym e))
neither false y e = (refl, e)

pub adds_more : (a b old mid new : List ℕ) (x y : Bool) → Adds a old mid x → Adds b mid new y → Adds (a ++ b) old new (x || y)
adds_more a b old mid new x y first second = record {
  stay = λ n i. second.stay n (first.stay n i);
  has = λ n i. elim (in_append n a b i) as (λ _. In n new) [ inl j ↦ second.stay n (first.has n j) | inr j ↦ second.has n j ];
  only = λ n i.
      elim (second.only n i) as (λ _. In n old ⊎ In n (a ++ b)) [
        | inl j ↦ (elim (first.only n j) as (λ _. In n old ⊎ In n (a ++ b)) [ inl k ↦ inl k | inr k ↦ inr (in_left n a b k) ])
        | inr j ↦ inr (in_right n a b j)
      ];
  same = λ e. (let none = neither x y e in second.same none.1 ∙ first.same none.0);
  less = λ e all within.
      let up = no_more_missing all old mid first.stay in
      let on = no_more_missing all mid new second.stay in
      elim (either x y e) as (λ _. missing all new < missing all old) [
        | inl own ↦ (let less = first.less own all (λ n i. within n (in_left n a b i)) in omega (arith, less, on))
        | inr own ↦ (let less = second.less own all (λ n i. within n (in_right n a b i)) in omega (arith, less, up))
      ];
}

-- ---- a crossing's tables are added

pub spreads_both : {O : Type 0} (p : Crossing O) (old mid new : List ℕ) (x y : Bool) → Adds p.near old mid x → Adds p.far mid new y → SpreadsOver p old new (x || y)
spreads_both p old mid new x y near far =
    let both = adds_more p.near p.far old mid new x y near far in
    record {
      stay = both.stay;
      only = λ n i. elim (both.only n i) as (λ _. In n old ⊎ (In n p.near ⊎ In n p.far)) [ inl j ↦ inl j | inr j ↦ inr (in_append n p.near p.far j) ];
      same = both.same;
      closed = λ e own. (λ n i. both.has n (in_left n p.near p.far i), λ n i. both.has n (in_right n p.near p.far i));
      less = λ e all here there. both.less e all (λ n i. elim (in_append n p.near p.far i) as (λ _. In n all) [ inl j ↦ here n j | inr j ↦ there n j ]);
    }

pub spreads_none : {O : Type 0} (old : List ℕ) → Spreads {O = O} [] old old false
spreads_none old = record { stay = λ n i. i; only = λ n i. inl i; same = λ e. refl; closed = λ e. tt; less = λ e. absurd (false≢true e) }

each_first : {X : Type 0} (P : X → Type 0) (xs ys : List X) → Each P (xs ++ ys) → Each P xs
each_first P [] ys all = tt
each_first P (x ∷ xs) ys all = (all.0, each_first P xs ys all.1)

each_last : {X : Type 0} (P : X → Type 0) (xs : List X) (y : X) → Each P (xs ++ y ∷ []) → P y
each_last P [] y all = all.0
each_last P (x ∷ xs) y all = each_last P xs y all.1

pub spreads_more : {O : Type 0} (ps : List (Crossing O)) (p : Crossing O) (old mid new : List ℕ) (x y : Bool) → Spreads ps old mid x → SpreadsOver p mid new y → Spreads (ps ++ p ∷ []) old new (x || y)
spreads_more {O} ps p old mid new x y first second = record {
  stay = λ n i. second.stay n (first.stay n i);
  only = λ n i.
      elim (second.only n i) as (λ _. In n old ⊎ ((q : Crossing O) × In q (ps ++ p ∷ []) × (In n q.near ⊎ In n q.far))) [
        | inl j ↦
            elim (first.only n j) as (λ _. In n old ⊎ ((q : Crossing O) × In q (ps ++ p ∷ []) × (In n q.near ⊎ In n q.far))) [
              | inl k ↦ inl k
              | inr k ↦ inr (k.0, in_left k.0 ps (p ∷ []) k.1, k.2)
            ]
        | inr j ↦ inr (p, in_right p ps (p ∷ []) (inl refl), j)
      ];
  same = λ e. (let none = neither x y e in second.same none.1 ∙ first.same none.0);
  closed = λ e.
      let none = neither x y e in
      each_append (IsClosedAt new) ps (p ∷ []) (subst (λ (l : List ℕ). Each (IsClosedAt {O = O} l) ps) (sym (second.same none.1)) (first.closed none.0)) (second.closed none.1, tt);
  less = λ e all within.
      let Q = λ (q : Crossing O). Within q.near all × Within q.far all in
      let up = no_more_missing all old mid first.stay in
      let on = no_more_missing all mid new second.stay in
      let last = each_last Q ps p within in
      elim (either x y e) as (λ _. missing all new < missing all old) [
        | inl own ↦ (let less = first.less own all (each_first Q ps (p ∷ []) within) in omega (arith, less, on))
        | inr own ↦ (let less = second.less own all last.0 last.1 in omega (arith, less, up))
      ];
}

-- ---- operators that are touched

touched_append : {O : Type 0} (tables : List ℕ) (ps qs : List (Crossing O)) → touched_of tables (ps ++ qs) ≡ touched_of tables ps ++ touched_of tables qs
touched_append tables [] qs = refl
touched_append tables (p ∷ ps) qs =
    elim (touches tables p) as (λ b. touches tables p ≡ b → touched_of tables (p ∷ (ps ++ qs)) ≡ touched_of tables (p ∷ ps) ++ touched_of tables qs) [
      | true ↦ λ e. rw e (ap (λ (l : List ℕ). p.number ∷ l) (touched_append tables ps qs))
      | false ↦ λ e. rw e (touched_append tables ps qs)
    ]
    refl

module _ {O : Type 0} (tables : List ℕ) (ps : List (Crossing O)) (i : ℕ) (d : Crossing O) (inside : i < length ps) where
  one_more : touched_of tables (take (i + 1) ps) ≡ touched_of tables (take i ps) ++ touched_of tables (get_or ps i d ∷ [])
  one_more = ap (touched_of tables) (take_more ps i d inside) ∙ touched_append tables (take i ps) (get_or ps i d ∷ [])

  pub touched_more : touches tables (get_or ps i d) ≡ true → touched_of tables (take (i + 1) ps) ≡ touched_of tables (take i ps) ++ (get_or ps i d).number ∷ []
  touched_more own = one_more ∙ ap (λ (l : List (Crossing O)). touched_of tables (take i ps) ++ crossed l) (cond-true (touches tables (get_or ps i d)) (get_or ps i d ∷ []) [] own)

  pub touched_past : touches tables (get_or ps i d) ≡ false → touched_of tables (take (i + 1) ps) ≡ touched_of tables (take i ps)
  touched_past other = one_more ∙ ap (λ (l : List (Crossing O)). touched_of tables (take i ps) ++ crossed l) (cond-false (touches tables (get_or ps i d)) (get_or ps i d ∷ []) [] other) ∙ append-nil (touched_of tables (take i ps))

-- ---- what was found is what can be reached

module _ {O : Type 0} (T : Crossing O → Bool) (ps : List (Crossing O)) (apart : Distinct (crossed ps)) where
  abbrev some : List (Crossing O)
  some = filter T ps

  kept_in : (p : Crossing O) (qs : List (Crossing O)) → In p qs → T p ≡ true → In p (filter T qs)
  kept_in p [] i own = i
  kept_in p (q ∷ qs) (inl same) own = subst (λ (l : List (Crossing O)). In p l) (sym (cond-true (T q) (q ∷ filter T qs) (filter T qs) (ap T (sym same) ∙ own))) (inl same)
  kept_in p (q ∷ qs) (inr i) own = elim (T q) as (λ b. In p (cond b (q ∷ filter T qs) (filter T qs))) [ true ↦ inr (kept_in p qs i own) | false ↦ kept_in p qs i own ]

  -- a crossing passes exactly where its operator is among those that do
  same_test : (p : Crossing O) → In p ps → is_in p.number (crossed some) ≡ T p
  same_test p i =
      elim (T p) as (λ b. T p ≡ b → is_in p.number (crossed some) ≡ b) [
        | true ↦ λ own. is_in_true p.number (crossed some) (in_map (λ (q : Crossing O). q.number) p some (kept_in p ps i own))
        | false ↦ λ other.
            elim (is_in p.number (crossed some)) as (λ c. is_in p.number (crossed some) ≡ c → c ≡ false) [
              | true ↦ λ e.
                  let o = origin (λ (q : Crossing O). q.number) p.number some (in_of_test p.number (crossed some) e) in
                  let same = same_item (λ (q : Crossing O). q.number) ps p o.0 apart i (in_filter T o.0 ps o.1) o.2 in
                  absurd (false≢true (sym other ∙ ap T same ∙ passes T o.0 ps o.1))
              | false ↦ λ e. refl
            ]
            refl
      ]
      refl

  filter_same : (A B : Crossing O → Bool) (qs : List (Crossing O)) → Each (λ (q : Crossing O). A q ≡ B q) qs → filter A qs ≡ filter B qs
  filter_same A B [] all = refl
  filter_same A B (q ∷ qs) all =
      ap (λ (b : Bool). cond b (q ∷ filter A qs) (filter A qs)) all.0 ∙ ap (λ (l : List (Crossing O)). cond (B q) (q ∷ l) l) (filter_same A B qs all.1)

  pub listed_is : crossed some ≡ crossed (reached (crossed some) ps)
  listed_is = ap (λ (l : List (Crossing O)). crossed l) (sym (filter_same (λ (p : Crossing O). is_in p.number (crossed some)) T ps (each_of (λ (p : Crossing O). is_in p.number (crossed some) ≡ T p) ps same_test)))

-- an operator of the tree made the table
made_link : {O : Type 0} (root : ℕ → ℕ) (es : List (Link O)) (r t : ℕ) → MadeIn root es r t → (f : Link O) × In f es × (root f.number ≡ r) × In t f.targets
made_link root [] r t m = absurd m
made_link root (e ∷ es) r t (inl m) = (e, inl refl, m.0, m.1)
made_link root (e ∷ es) r t (inr m) = let f = made_link root es r t m in (f.0, inr f.1, f.2, f.3)

any_in : (tables ns : List ℕ) (t : ℕ) → In t ns → In t tables → list_any (λ n. is_in n tables) ns ≡ true
any_in tables [] t i j = absurd i
any_in tables (n ∷ ns) t (inl same) j = (let own : is_in n tables ≡ true = is_in_true n tables (subst (λ (k : ℕ). In k tables) same j) in rw own refl)
any_in tables (n ∷ ns) t (inr i) j =
    let rest = any_in tables ns t i j in
    elim (is_in n tables) as (λ b. (b || list_any (λ n. is_in n tables) ns) ≡ true) [ true ↦ refl | false ↦ rest ]

-- the table is one of the working set's tree
abbrev pub InRoot : {O : Type 0} → List (Placed O) → ℕ → ℕ → Type 0
InRoot {O} es set t = MadeIn (λ n. root_in (forest es) n) (forest es) (root_in (forest es) set) t

module _ {O : Type 0} (es : List (Placed O)) (edges : AreEdges es) (set : ℕ) where
  abbrev links : List (Link O)
  links = forest es

  abbrev root : ℕ → ℕ
  root n = root_in links n

  -- it begins with a table of the working set
  pub begins : (t : ℕ) → In t (table_numbers (working es set)) → InRoot es set t
  begins t i = tables_in_tree root links (is_forest es edges) (trees_together es edges) (root set) set (inr refl) t (subst (λ (l : List ℕ). In t l) (sym (sets_linked es edges set)) i)

  made_there : (e : Link O) → In e links → (t : ℕ) → IsBeside t e → MadeIn root links (root e.number) t
  made_there e i t (inl k) = sources_in_tree root links e (is_forest es edges) (trees_together es edges) i t k
  made_there e i t (inr k) = targets_in_tree root links e i t k

  beside : (e : Link O) (back : Bool) (t : ℕ) → In t (crossing back e).near ⊎ In t (crossing back e).far → IsBeside t e
  beside e true t (inl k) = inr k
  beside e true t (inr k) = inl k
  beside e false t (inl k) = inl k
  beside e false t (inr k) = inr k

  -- a crossing of the walk has tables of that tree
  pub walk_in_root : Each (λ (p : Crossing O). (t : ℕ) → In t p.near ⊎ In t p.far → InRoot es set t) (walk links set)
  walk_in_root =
      each_of (λ (p : Crossing O). (t : ℕ) → In t p.near ⊎ In t p.far → InRoot es set t) (walk links set) (λ p i t k.
      let over = each_at (GoesOver links) (walk links set) p i (walk_goes_over links set) in
      let own : root p.number ≡ root set = walk_in_tree es edges set p.number (in_map (λ (q : Crossing O). q.number) p (walk links set) i) in
      let there = made_there over.over over.among t (beside over.over over.back t (subst (λ (q : Crossing O). In t q.near ⊎ In t q.far) over.is k)) in
      subst (λ (r : ℕ). MadeIn root links r t) (ap root (sym (number_of over.over over.back) ∙ ap (λ (q : Crossing O). q.number) (sym over.is)) ∙ own) there)

  -- what is added to tables of it is of it
  pub still_in_root : (old new : List ℕ) (more : Bool) → Spreads (walk links set) old new more → ((t : ℕ) → In t old → InRoot es set t) → (t : ℕ) → In t new → InRoot es set t
  still_in_root old new more spreads from t i =
      elim (spreads.only t i) as (λ _. InRoot es set t) [
        | inl j ↦ from t j
        | inr j ↦ each_at (λ (p : Crossing O). (u : ℕ) → In u p.near ⊎ In u p.far → InRoot es set u) (walk links set) j.0 j.1 walk_in_root t j.2
      ]

  -- which live
  pub lives_in_root : (t : ℕ) → InRoot es set t → In t (table_numbers (made es))
  lives_in_root t m =
      let f = made_link root links (root set) t m in
      subst (λ (l : List ℕ). In t l) (targets_linked es edges) (target_listed links f.0 t f.1 f.3)

  pub walk_live : Each (λ (p : Crossing O). Within p.near (table_numbers (made es)) × Within p.far (table_numbers (made es))) (walk links set)
  walk_live =
      each_of (λ (p : Crossing O). Within p.near (table_numbers (made es)) × Within p.far (table_numbers (made es))) (walk links set) (λ p i.
      let here = each_at (λ (q : Crossing O). (t : ℕ) → In t q.near ⊎ In t q.far → InRoot es set t) (walk links set) p i walk_in_root in
      (λ t k. lives_in_root t (here t (inl k)), λ t k. lives_in_root t (here t (inr k))))

  -- WHAT IS CLOSED IS ALL THAT A WRITE CAN REACH
  module _ (table : ℕ) (tables : List ℕ) (held : In table tables) (from : (t : ℕ) → In t tables → InRoot es set t) (closed : Each (IsClosedAt tables) (walk links set)) where
    abbrev operators : List ℕ
    operators = touched_of tables (walk links set)

    abbrev T : Crossing O → Bool
    T = touches tables

    -- each crossing over an operator of these has its tables among them
    sides : (e : Link O) → In e links → In e.number operators → (t : ℕ) → IsBeside t e → In t tables
    sides e i own t k =
        let o = origin (λ (p : Crossing O). p.number) e.number (filter T (walk links set)) own in
        let p = o.0 in
        let there = in_filter T p (walk links set) o.1 in
        let over = each_at (GoesOver links) (walk links set) p there (walk_goes_over links set) in
        let all = each_at (IsClosedAt tables) (walk links set) p there closed (passes T p (walk links set) o.1) in
        let same : e ≡ over.over = same_link links e over.over (is_forest es edges) i over.among (o.2 ∙ ap (λ (q : Crossing O). q.number) over.is ∙ number_of over.over over.back) in
        of_sides over.over over.back (subst (λ (q : Crossing O). Within q.near tables × Within q.far tables) over.is all) t (subst (λ (f : Link O). IsBeside t f) same k)
      where
        of_sides : (f : Link O) (back : Bool) → Within (crossing back f).near tables × Within (crossing back f).far tables → (t : ℕ) → IsBeside t f → In t tables
        of_sides f true all t (inl k) = all.1 t k
        of_sides f true all t (inr k) = all.0 t k
        of_sides f false all t (inl k) = all.0 t k
        of_sides f false all t (inr k) = all.1 t k

    -- and each operator beside one of them is among these
    besides : (e : Link O) → In e links → (t : ℕ) → In t tables → IsBeside t e → In e.number operators
    besides e i t j k =
        let same = one_tree root links (is_forest es edges) (root e.number) (root set) t (made_there e i t k) (from t j) in
        let listed = tree_in_walk es set e.number (link_number es e i) same in
        let o = origin (λ (p : Crossing O). p.number) e.number (walk links set) listed in
        let over = each_at (GoesOver links) (walk links set) o.0 o.1 (walk_goes_over links set) in
        let is_e : e ≡ over.over = same_link links e over.over (is_forest es edges) i over.among (o.2 ∙ ap (λ (q : Crossing O). q.number) over.is ∙ number_of over.over over.back) in
        let own : T o.0 ≡ true = ap T over.is ∙ touch over.over over.back t j (subst (λ (f : Link O). IsBeside t f) is_e k) in
        subst (λ (n : ℕ). In n operators) (sym o.2) (in_map (λ (q : Crossing O). q.number) o.0 (filter T (walk links set)) (kept_in T (walk links set) (crossed_apart (walk links set) (walk_in_order es edges set)) o.0 (walk links set) o.1 own))
      where
        first : (a b : Bool) → a ≡ true → (a || b) ≡ true
        first true b e = refl
        first false b e = absurd (false≢true e)

        second : (a b : Bool) → b ≡ true → (a || b) ≡ true
        second true b e = refl
        second false b e = e

        touch : (f : Link O) (back : Bool) (t : ℕ) → In t tables → IsBeside t f → T (crossing back f) ≡ true
        touch f true t j (inl k) = second (list_any (λ n. is_in n tables) f.targets) (list_any (λ n. is_in n tables) f.sources) (any_in tables f.sources t k j)
        touch f true t j (inr k) = first (list_any (λ n. is_in n tables) f.targets) (list_any (λ n. is_in n tables) f.sources) (any_in tables f.targets t k j)
        touch f false t j (inl k) = first (list_any (λ n. is_in n tables) f.sources) (list_any (λ n. is_in n tables) f.targets) (any_in tables f.sources t k j)
        touch f false t j (inr k) = second (list_any (λ n. is_in n tables) f.sources) (list_any (λ n. is_in n tables) f.targets) (any_in tables f.targets t k j)

    pub is_reach : IsReach es set table operators tables
    is_reach = record {
      held = held;
      whole = record { tables = sides; operators = besides; live = λ t i. lives_in_root t (from t i) };
      listed = listed_is T (walk links set) (crossed_apart (walk links set) (walk_in_order es edges set));
    }
