-- Each step is the next flip of the move to its goal.
use Rattle.std.specs.Prelude.{◌≤◌, ◌⊎◌, ◌↔◌, ◌==◌, Option, Some, None}
use Rattle.std.specs.Option.{is_some, option_or, IsSome}
use Rattle.std.specs.List.{find}
use Rattle.std.proofs.Common.{◌≡◌, ℕ, List, [], ◌∷◌, Bool, true, false, not, cond, inl, inr, refl, sym, ap, ◌∙◌, subst, arith}
use Rattle.std.proofs.lemmas.Bool.{cases_eq, cond-true, eq-eqb, eqb-true, false≢true}
use Rattle.std.proofs.lemmas.List.Folds.{find-append}
use mathlib.Core.List.{reverse}
use Rattle.version_graph.specs.Sets.{In}
use Rattle.version_graph.specs.Edges.{Rises, edge_of, is_in, numbers}
use Rattle.version_graph.specs.Forest.{Link, forest}
use Rattle.version_graph.specs.declared.parts.Placed.{Placed}
use Rattle.version_graph.proofs.SetLaws.{in_of_test, is_in_true}
use Rattle.version_graph.proofs.TableLaws.{in_filter, passes, rises_above}
use Rattle.layout_rules.specs.Layouts.{IsValid, Lives}
use Rattle.layout_rules.specs.Laws.{MovesStayValid}
use Rattle.layout_rules.specs.Lookups.{numbers_up}
use Rattle.layout_rules.specs.Moves.{Flips, IsDown, IsUp, PutsIn, TakesOut}
use Rattle.layout_rules.proofs.ChangeLaws.{filter_in, number_lives}
use Rattle.layout_rules.proofs.LinkLaws.{in_or_out}
use Rattle.layout_rules.proofs.PassLaws.{reverse_next, rises_filter}
use Rattle.storage_law.specs.Flips.{Turns}
use Rattle.storage_law.proofs.LinkLaws.{not_in_false, same_test}
use Rattle.migration.specs.Sides.{changes_side, changing, flipped_layout}
use Rattle.migration.specs.Pending.{IsPending, goal_of, next_flip, or_oldest, pending_without}
use Rattle.migration.specs.Laws.{StepsAreFlips}
use Rattle.migration.proofs.CountLemmas.{kept_same}
use Rattle.migration.proofs.SideLemmas.{comes, goes, listed_side, side_listed}
use Rattle.migration.proofs.TurnLemmas.{flip_turns}

-- ---- the next operator

module _ (test : ℕ → Bool) where
  -- where none is found from the end on, none passes
  newest_none : (xs : List ℕ) → find test (reverse xs) ≡ None → (m : ℕ) → In m xs → test m ≡ true → ⊥
  newest_none [] none m i is = i
  newest_none (x ∷ xs) none m i is =
      go (newest_none xs) (find test (reverse xs)) refl (sym (ap (find test) (reverse_next x xs) ∙ find-append test (reverse xs) (x ∷ [])) ∙ none)
    where
      here : cond (test x) (Some x) None ≡ None → In m (x ∷ xs) → (In m xs → ⊥) → ⊥
      here h (inl same) other =
          let found = sym (cond-true (test x) (Some x) None (ap test (sym same) ∙ is)) ∙ h in
          let no : ⊥ = cc in no
      here h (inr j) other = other j

      go : (find test (reverse xs) ≡ None → (k : ℕ) → In k xs → test k ≡ true → ⊥) → (o : Option ℕ) → find test (reverse xs) ≡ o → option_or o (cond (test x) (Some x) None) ≡ None → ⊥
      go before (Some k) there h = let no : ⊥ = cc in no
      go before None there h = here h i (λ j. before there m j is)

  -- what is found from the end of ascending numbers on is the greatest that passes
  newest_told : (xs : List ℕ) (least n : ℕ) → Rises least xs → find test (reverse xs) ≡ Some n → In n xs × (test n ≡ true) × ((m : ℕ) → In m xs → test m ≡ true → m ≤ n)
  newest_told [] least n rise is = absurd (let no : ⊥ = cc in no)
  newest_told (x ∷ xs) least n rise is =
      go (newest_told xs x n rise.1) (find test (reverse xs)) refl (sym (ap (find test) (reverse_next x xs) ∙ find-append test (reverse xs) (x ∷ [])) ∙ is)
    where
      here : (b : Bool) → test x ≡ b → cond b (Some x) None ≡ Some n → ((m : ℕ) → In m xs → test m ≡ true → ⊥) → In n (x ∷ xs) × (test n ≡ true) × ((m : ℕ) → In m (x ∷ xs) → test m ≡ true → m ≤ n)
      here true on h none =
          let same : x ≡ n = cc in (
            inl (sym same),
            ap test (sym same) ∙ on,
            λ m i t. elim i as (λ _. m ≤ n) [ inl e ↦ omega (arith, e, same) | inr j ↦ absurd (none m j t) ],
          )
      here false off h none = absurd (let no : ⊥ = cc in no)

      go : (find test (reverse xs) ≡ Some n → In n xs × (test n ≡ true) × ((m : ℕ) → In m xs → test m ≡ true → m ≤ n)) → (o : Option ℕ) → find test (reverse xs) ≡ o → option_or o (cond (test x) (Some x) None) ≡ Some n → In n (x ∷ xs) × (test n ≡ true) × ((m : ℕ) → In m (x ∷ xs) → test m ≡ true → m ≤ n)
      go before (Some k) there h =
          let same : k ≡ n = cc in
          let rest = before (there ∙ ap (λ (k : ℕ). Some k) same) in
          let above = rises_above x xs rise.1 n rest.0 in (
            inr rest.0,
            rest.1,
            λ m i t. elim i as (λ _. m ≤ n) [ inl e ↦ omega (arith, e, above) | inr j ↦ rest.2 m j t ],
          )
      go before None there h = here (test x) refl h (newest_none xs there)

-- the newest of those in the layout, or the oldest where none is
abbrev IsNext : List ℕ → List ℕ → ℕ → Type 0
IsNext layout pending n =
    (In n layout × In n pending × ((m : ℕ) → In m pending → In m layout → m ≤ n))
    ⊎ ((In n layout → ⊥) × In n pending × ((m : ℕ) → In m pending → In m layout → ⊥) × ((m : ℕ) → In m pending → n ≤ m))

pub next_told : (layout pending : List ℕ) (n : ℕ) → Rises 0 pending → next_flip layout pending ≡ Some n → IsNext layout pending n
next_told layout pending n rise is = go (find test (reverse pending)) refl is
  where
    test : ℕ → Bool
    test = λ m. is_in m layout

    oldest : (xs : List ℕ) → Rises 0 xs → or_oldest None xs ≡ Some n → In n xs × ((m : ℕ) → In m xs → n ≤ m)
    oldest [] r h = absurd (let no : ⊥ = cc in no)
    oldest (x ∷ xs) r h =
        let same : x ≡ n = cc in (
          inl (sym same),
          λ m i. elim i as (λ _. n ≤ m) [ inl e ↦ omega (arith, e, same) | inr j ↦ (let above = rises_above x xs r.1 m j in omega (arith, above, same)) ],
        )

    go : (o : Option ℕ) → find test (reverse pending) ≡ o → or_oldest o pending ≡ Some n → IsNext layout pending n
    go (Some k) there h =
        let same : k ≡ n = cc in
        let told = newest_told test pending 0 n rise (there ∙ ap (λ (k : ℕ). Some k) same) in
        inl (in_of_test n layout told.1, told.0, (λ m i j. told.2 m i (is_in_true m layout j)))
    go None there h =
        let told = oldest pending rise h in
        let none : (m : ℕ) → In m pending → In m layout → ⊥ = λ m i j. newest_none test pending there m i (is_in_true m layout j) in
        inr ((λ j. none n told.0 j), told.0, none, told.1)

-- ---- its flip

-- a live operator is found
pub lives_found : {O : Type 0} (es : List (Placed O)) (n : ℕ) → In n (numbers es) → IsSome (edge_of es n)
lives_found [] n i = absurd i
lives_found {O} (e ∷ es) n i = go (lives_found es n) (n == e.number) refl i
  where
    go : (In n (numbers es) → IsSome (edge_of es n)) → (b : Bool) → (n == e.number) ≡ b → In n (numbers (e ∷ es)) → is_some (cond b (Some e) (edge_of es n)) ≡ true
    go older true same j = refl
    go older false other (inl same) = absurd (false≢true (sym other ∙ eq-eqb n e.number same))
    go older false other (inr j) = older j

module _ {O : Type 0} (es : List (Placed O)) (layout pending : List ℕ) (p : IsPending es layout pending) where
  abbrev goal : List ℕ
  goal = changing es layout pending

  is_down : (e : Link O) → In e (forest es) → In e.number layout → In e.number pending → ((m : ℕ) → In m pending → In m layout → m ≤ e.number) → IsDown (forest es) layout goal e
  is_down e i a b newest = record {
    lives = i;
    stored = a;
    unwanted = λ c. elim (listed_side es layout pending e.number c) as (λ _. ⊥) [ inl h ↦ h.1 b | inr h ↦ h.0 a ];
    newest = λ f j c d. elim (in_or_out f.number pending) as (λ _. f.number ≤ e.number) [
      | inl k ↦ newest f.number k c
      | inr out ↦ absurd (d (side_listed es layout pending f j (goes layout pending f.number c out)))
    ];
  }

  is_up : (e : Link O) → In e (forest es) → (In e.number layout → ⊥) → In e.number pending → ((m : ℕ) → In m pending → In m layout → ⊥) → ((m : ℕ) → In m pending → e.number ≤ m) → IsUp (forest es) layout goal e
  is_up e i a b none oldest = record {
    lives = i;
    missing = a;
    wanted = side_listed es layout pending e i (comes layout pending e.number a b);
    none_down = λ f j c. side_listed es layout pending f j (goes layout pending f.number c (λ k. none f.number k c));
    oldest = λ f j c d. elim (listed_side es layout pending f.number d) as (λ _. e.number ≤ f.number) [ inl h ↦ absurd (c h.0) | inr h ↦ oldest f.number h.1 ];
  }

  module _ (n : ℕ) (next : IsNext layout pending n) (turns : Turns n layout (flipped_layout es n layout)) where
    abbrev new : List ℕ
    new = flipped_layout es n layout

    flips_by : (l : Lives (forest es) n) → Flips (forest es) goal layout new
    flips_by l =
        let e = l.0 in
        elim next as (λ _. Flips (forest es) goal layout new) [
          | inl a ↦
              let out : TakesOut n layout new = elim turns as (λ _. TakesOut n layout new) [ inl t ↦ t.1 | inr t ↦ absurd (t.0 a.0) ] in
              (e, inl (is_down e l.1 (subst (λ (k : ℕ). In k layout) l.2 a.0) (subst (λ (k : ℕ). In k pending) l.2 a.1) (subst (λ (k : ℕ). (m : ℕ) → In m pending → In m layout → m ≤ k) l.2 a.2), subst (λ (k : ℕ). TakesOut k layout new) l.2 out))
          | inr a ↦
              let put : PutsIn n layout new = elim turns as (λ _. PutsIn n layout new) [ inl t ↦ absurd (a.0 t.0) | inr t ↦ t.1 ] in
              (e, inr (is_up e l.1 (subst (λ (k : ℕ). In k layout → ⊥) l.2 a.0) (subst (λ (k : ℕ). In k pending) l.2 a.1) a.2 (subst (λ (k : ℕ). (m : ℕ) → In m pending → k ≤ m) l.2 a.3), subst (λ (k : ℕ). PutsIn k layout new) l.2 put))
        ]

    abbrev rest : List ℕ
    rest = pending_without n pending

    not_left : In n rest → ⊥
    not_left i = false≢true (sym (ap not (eq-eqb n n refl)) ∙ passes (λ m. not (m == n)) n pending i)

    others_left : (m : ℕ) → (m ≡ n → ⊥) → In m rest ↔ In m pending
    others_left m other = (
      (λ i. in_filter (λ k. not (k == n)) m pending i),
      λ i. filter_in (λ k. not (k == n)) m pending i (go (m == n) refl),
    )
      where
        go : (b : Bool) → (m == n) ≡ b → not (m == n) ≡ true
        go true is = absurd (other (eqb-true m n is))
        go false is = ap not is

    -- each side is as far from the goal as before
    side_stays : (m : ℕ) → changes_side new rest m ≡ changes_side layout pending m
    side_stays m = elim (cases_eq m n) as (λ _. changes_side new rest m ≡ changes_side layout pending m) [
      | inl same ↦ subst (λ (k : ℕ). changes_side new rest k ≡ changes_side layout pending k) (sym same) here
      | inr other ↦ (λ i. cond (there m other i) (not (left m other i)) (left m other i))
    ]
      where
        there : (k : ℕ) → (k ≡ n → ⊥) → is_in k new ≡ is_in k layout
        there k other = same_test k new layout (elim turns as (λ _. In k new ↔ In k layout) [ inl t ↦ t.1.others k other | inr t ↦ t.1.others k other ])

        left : (k : ℕ) → (k ≡ n → ⊥) → is_in k rest ≡ is_in k pending
        left k other = same_test k rest pending (others_left k other)

        here : changes_side new rest n ≡ changes_side layout pending n
        here =
            let gone = not_in_false n rest not_left in
            elim turns as (λ _. changes_side new rest n ≡ changes_side layout pending n) [
              | inl t ↦
                  let a = not_in_false n new t.1.gone in
                  let b = is_in_true n layout t.0 in
                  let c = is_in_true n pending (elim next as (λ _. In n pending) [ inl x ↦ x.1 | inr x ↦ x.1 ]) in
                  (λ i. cond (a i) (not (gone i)) (gone i)) ∙ sym (λ i. cond (b i) (not (c i)) (c i))
              | inr t ↦
                  let a = is_in_true n new t.1.there in
                  let b = not_in_false n layout t.0 in
                  let c = is_in_true n pending (elim next as (λ _. In n pending) [ inl x ↦ x.1 | inr x ↦ x.1 ]) in
                  (λ i. cond (a i) (not (gone i)) (gone i)) ∙ sym (λ i. cond (b i) (not (c i)) (c i))
            ]

    goal_stays : goal_of es new rest ≡ goal_of es layout pending
    goal_stays = kept_same (changes_side new rest) (changes_side layout pending) (numbers_up es) (λ m i. side_stays m)

    pending_left : IsPending es new rest
    pending_left = record {
      ascending = rises_filter (λ m. not (m == n)) 0 pending p.ascending;
      live = λ m i. p.live m (in_filter (λ k. not (k == n)) m pending i);
      goal = subst (λ (l : List ℕ). IsValid (forest es) l) (sym goal_stays) p.goal;
    }

-- EACH STEP IS THE NEXT FLIP
pub step_flips : {O : Type 0} → MovesStayValid O → StepsAreFlips O
step_flips moves es edges layout pending valid p n is =
    let next = next_told layout pending n p.ascending is in
    let live = p.live n (elim next as (λ _. In n pending) [ inl x ↦ x.1 | inr x ↦ x.1 ]) in
    let turns = flip_turns es n layout valid.live (lives_found es n live) in
    let flips = flips_by es layout pending p n next turns (number_lives es n live) in
    record {
      flips = flips;
      valid = moves es edges (goal_of es layout pending) p.goal 1 layout (flipped_layout es n layout) valid (flipped_layout es n layout, flips, refl);
      left = pending_left es layout pending p n next turns;
      goal = goal_stays es layout pending p n next turns;
    }
