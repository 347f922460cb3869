-- What is pending: from the start of a move to its end, and from one graph to the next.
use Rattle.std.specs.Prelude.{◌≤◌, ◌==◌, Option, Some, None, Ok}
use Rattle.std.specs.List.{find}
use Rattle.std.proofs.Common.{◌≡◌, ℕ, zero, suc, List, [], ◌∷◌, Bool, true, false, not, cond, filter, length, inl, inr, refl, sym, ap, ◌∙◌, subst, arith}
use Rattle.std.proofs.lemmas.Bool.{eq-eqb, eqb-true, false≢true}
use mathlib.Core.List.{reverse}
use Rattle.par_base.specs.declared.limits.Target.{Target}
use Rattle.par_base.specs.declared.refusal.Refusal.{Refusal}
use Rattle.version_graph.specs.Sets.{In}
use Rattle.version_graph.specs.Edges.{AreEdges, Drawn, IsGraph, Rises, is_in, numbers}
use Rattle.version_graph.specs.Forest.{Link, forest}
use Rattle.version_graph.specs.declared.parts.Placed.{Placed}
use Rattle.version_graph.proofs.SetLaws.{each_at, in_of_test, is_in_true}
use Rattle.version_graph.proofs.TableLaws.{in_filter, passes, same_rising}
use Rattle.layout_rules.specs.Layouts.{IsValid, Lives}
use Rattle.layout_rules.specs.Changes.{IsNewCreate, layout_after}
use Rattle.layout_rules.specs.Closed.{closed_layout, closing, closing_refusal, unless, wanted}
use Rattle.layout_rules.specs.Closing.{named_trees}
use Rattle.layout_rules.specs.Laws.{MovesStayValid}
use Rattle.layout_rules.specs.Lookups.{numbers_up, stays}
use Rattle.layout_rules.specs.Moves.{SameOperators}
use Rattle.layout_rules.proofs.AfterLaws.{follows_from, follows_to}
use Rattle.layout_rules.proofs.ChangeLaws.{filter_in, link_number, number_lives}
use Rattle.layout_rules.proofs.CloseLaws.{numbers_rise}
use Rattle.layout_rules.proofs.PassLaws.{rises_filter}
use Rattle.storage_law.proofs.LinkLaws.{not_in_false}
use Rattle.migration.specs.Sides.{changes_side, changing, flipped_layout}
use Rattle.migration.specs.Pending.{IsPending, goal_of, next_flip, or_oldest, pending_in, pending_without}
use Rattle.migration.specs.Laws.{StepsArrive, StepsTo}
use Rattle.migration.proofs.CountLemmas.{kept_same, one_less}
use Rattle.migration.proofs.SideLemmas.{comes, goes, listed_lives, listed_side, up_in, up_lives}
use Rattle.migration.proofs.StepLaws.{next_told, step_flips}

-- ---- the start of a move

-- a kept number is one of the list that passes
kept_test : (test : ℕ → Bool) (xs : List ℕ) (m : ℕ) → In m xs → is_in m (filter test xs) ≡ test m
kept_test test xs m i = go (test m) refl
  where
    go : (b : Bool) → test m ≡ b → is_in m (filter test xs) ≡ test m
    go true on = is_in_true m (filter test xs) (filter_in test m xs i on) ∙ sym on
    go false off = not_in_false m (filter test xs) (λ j. false≢true (sym off ∙ passes test m xs j)) ∙ sym off

module _ {O : Type 0} (es : List (Placed O)) (edges : AreEdges es) where
  -- a layout is what it has of the live operators
  listed_up : (layout : List ℕ) → Rises 0 layout → ((n : ℕ) → In n layout → Lives (forest es) n) → filter (λ n. is_in n layout) (numbers_up es) ≡ layout
  listed_up layout rise live =
      let test : ℕ → Bool = λ n. is_in n layout in
      same_rising 0 (filter test (numbers_up es)) layout (rises_filter test 0 (numbers_up es) (numbers_rise es edges)) rise
      (λ k i. in_of_test k layout (passes test k (numbers_up es) i))
      (λ k i.
      let l = live k i in
      filter_in test k (numbers_up es) (up_in es k (subst (λ (m : ℕ). In m (numbers es)) (sym l.2) (link_number es l.0 l.1))) (is_in_true k layout i))

  module _ (layout goal : List ℕ) (rise : Rises 0 goal) where
    -- the operators that change sides lead to the goal
    pub start_leads : ((n : ℕ) → In n goal → Lives (forest es) n) → goal_of es layout (changing es layout goal) ≡ goal
    start_leads live =
        kept_same (changes_side layout (changing es layout goal)) (λ n. is_in n goal) (numbers_up es) side
        ∙ listed_up goal rise live
      where
        twice : (a b : Bool) → cond a (not (cond a (not b) b)) (cond a (not b) b) ≡ b
        twice true true = refl
        twice true false = refl
        twice false b = refl

        side : (m : ℕ) → In m (numbers_up es) → changes_side layout (changing es layout goal) m ≡ is_in m goal
        side m i =
            let is = kept_test (changes_side layout goal) (numbers_up es) m i in
            ap (λ (b : Bool). cond (is_in m layout) (not b) b) is ∙ twice (is_in m layout) (is_in m goal)

    -- and they are pending
    pub start_pending : IsValid (forest es) goal → IsPending es layout (changing es layout goal)
    start_pending valid = record {
      ascending = rises_filter (changes_side layout goal) 0 (numbers_up es) (numbers_rise es edges);
      live = λ n i. let l = listed_lives es layout goal n i in subst (λ (m : ℕ). In m (numbers es)) (sym l.2) (link_number es l.0 l.1);
      goal = subst (λ (l : List ℕ). IsValid (forest es) l) (sym (start_leads valid.live)) valid;
    }

  -- where nothing is pending the layout is the goal
  pub none_leads : (layout : List ℕ) → Rises 0 layout → IsValid (forest es) layout → goal_of es layout [] ≡ layout
  none_leads layout rise valid =
      kept_same (changes_side layout []) (λ n. is_in n layout) (numbers_up es) (λ m i. side (is_in m layout)) ∙ listed_up layout rise valid.live
    where
      side : (b : Bool) → cond b (not false) false ≡ b
      side true = refl
      side false = refl

  pub none_pending : (layout : List ℕ) → Rises 0 layout → IsValid (forest es) layout → IsPending es layout []
  none_pending layout rise valid = record {
    ascending = tt;
    live = λ n i. absurd i;
    goal = subst (λ (l : List ℕ). IsValid (forest es) l) (sym (none_leads layout rise valid)) valid;
  }

  -- ---- the end of a move

  -- no next operator, where none is pending
  ended : (layout pending : List ℕ) → next_flip layout pending ≡ None → pending ≡ []
  ended layout [] is = refl
  ended layout (n ∷ pending) is = go (find (λ m. is_in m layout) (reverse (n ∷ pending))) is
    where
      go : (o : Option ℕ) → or_oldest o (n ∷ pending) ≡ None → n ∷ pending ≡ []
      go (Some k) h = absurd (let no : ⊥ = cc in no)
      go None h = absurd (let no : ⊥ = cc in no)

  all_kept : (xs : List ℕ) → filter (λ m. true) xs ≡ xs
  all_kept [] = refl
  all_kept (x ∷ xs) = ap (λ (l : List ℕ). x ∷ l) (all_kept xs)

  -- one less is pending
  one_done : (pending : List ℕ) (n : ℕ) → Rises 0 pending → In n pending → length pending ≡ suc (length (pending_without n pending))
  one_done pending n rise i =
      ap length (sym (all_kept pending))
      ∙ one_less (λ m. true) (λ m. not (m == n)) n 0 pending rise i refl (ap not (eq-eqb n n refl)) (λ m other. sym (go m other (m == n) refl))
    where
      go : (m : ℕ) → (m ≡ n → ⊥) → (b : Bool) → (m == n) ≡ b → not (m == n) ≡ true
      go m other true is = absurd (other (eqb-true m n is))
      go m other false is = ap not is

  in_next : (layout pending : List ℕ) (n : ℕ) → Rises 0 pending → next_flip layout pending ≡ Some n → In n pending
  in_next layout pending n rise is = elim (next_told layout pending n rise is) as (λ _. In n pending) [ inl x ↦ x.1 | inr x ↦ x.1 ]

  module _ (moves : MovesStayValid O) where
    go_on : (count : ℕ) (layout pending last : List ℕ) → IsValid (forest es) layout → Rises 0 layout → IsPending es layout pending → StepsTo es count layout pending last
        → (last ≡ goal_of es layout pending) × (count ≡ length pending)
    go_on zero layout pending last valid rise p (none, same) =
        let empty = ended layout pending none in (
          sym same ∙ sym (none_leads layout rise valid) ∙ ap (λ (l : List ℕ). goal_of es layout l) (sym empty),
          sym (ap length empty),
        )
    go_on (suc count) layout pending last valid rise p (n, is, steps) =
        let next = step_flips moves es edges layout pending valid p n is in
        let rest = go_on count (flipped_layout es n layout) (pending_without n pending) last next.valid (rises_filter (changes_side layout (n ∷ [])) 0 (numbers_up es) (numbers_rise es edges)) next.left steps in (
          rest.0 ∙ next.goal,
          ap suc rest.1 ∙ sym (one_done pending n p.ascending (in_next layout pending n p.ascending is)),
        )

-- STEPS END IN THE GOAL
pub steps_arrive : {O : Type 0} → MovesStayValid O → StepsArrive O
steps_arrive moves es edges layout goal valid rise valid_goal rise_goal count last steps =
    let there = go_on es edges moves count layout (changing es layout goal) last valid rise (start_pending es edges layout goal rise_goal valid_goal) steps in
    (there.0 ∙ start_leads es edges layout goal rise_goal valid_goal.live, there.1)

-- the layout that closing gives ascends, and has live operators alone
pub closing_up : {O : Type 0} (g : Drawn O) → AreEdges g.edges → (layout : List ℕ) (named : List Target) (goal : List ℕ) → closing g layout named ≡ Ok goal → Rises 0 goal × ((n : ℕ) → In n goal → Lives (forest g.edges) n)
closing_up g edges layout named goal is = go (closing_refusal g layout named) is
  where
    test : ℕ → Bool
    test = stays g.edges (named_trees g named) (wanted g named) layout

    go : (r : Option Refusal) → unless r (closed_layout g layout named) ≡ Ok goal → Rises 0 goal × ((n : ℕ) → In n goal → Lives (forest g.edges) n)
    go (Some refusal) h = absurd (let no : ⊥ = cc in no)
    go None h =
        let same : closed_layout g layout named ≡ goal = cc in
        subst (λ (l : List ℕ). Rises 0 l × ((n : ℕ) → In n l → Lives (forest g.edges) n)) same (
          rises_filter test 0 (numbers_up g.edges) (numbers_rise g.edges edges),
          λ n i. number_lives g.edges n (up_lives g.edges n (in_filter test n (numbers_up g.edges) i)),
        )

-- ---- from one graph to the next

-- layouts of the same operators are both valid
same_valid : {O : Type 0} (es : List (Link O)) (layout other : List ℕ) → SameOperators layout other → IsValid es layout → IsValid es other
same_valid {O} es layout other same valid = record {
  live = λ n i. valid.live n ((same n).1 i);
  creates = λ e i none. (same e.number).0 (valid.creates e i none);
  makers = λ e i a t b. let m = valid.makers e i ((same e.number).1 a) t b in (m.0, m.1, (same m.0.number).0 m.2, m.3);
  once = λ e f i j a b s. valid.once e f i j ((same e.number).1 a) ((same f.number).1 b) s;
}

module _ {O : Type 0} (old new : Drawn O) (graph : IsGraph old) (edges : AreEdges new.edges) (layout pending : List ℕ) (valid : IsValid (forest old.edges) layout) (p : IsPending old.edges layout pending) where
  abbrev goal_then : List ℕ
  goal_then = goal_of old.edges layout pending

  abbrev after : List ℕ
  after = layout_after layout old new

  abbrev kept : List ℕ
  kept = pending_in new.edges pending

  here : (n : ℕ) → In n (numbers new.edges) → (e : Link O) × In e (forest new.edges) × (n ≡ e.number)
  here n i = number_lives new.edges n i

  -- a number that is pending is no new one
  not_new : (n : ℕ) → In n pending → IsNewCreate old new n → ⊥
  not_new n i c =
      let least = each_at (λ k. k ≤ old.last_operator) (numbers old.edges) n (p.live n i) graph.operators in
      let above = c.4 in
      omega (arith, least, above)

  stays_pending : (n : ℕ) → In n kept → In n pending
  stays_pending n i = in_filter (λ k. is_in k (numbers new.edges)) n pending i

  still : (n : ℕ) → In n pending → In n (numbers new.edges) → In n kept
  still n i l = filter_in (λ k. is_in k (numbers new.edges)) n pending i (is_in_true n (numbers new.edges) l)

  goes_on : (n : ℕ) → In n (numbers new.edges) → changes_side after kept n ≡ true → In n (changing new.edges after kept)
  goes_on n l is = filter_in (changes_side after kept) n (numbers_up new.edges) (up_in new.edges n l) is

  side_listed_old : (n : ℕ) → In n (numbers old.edges) → changes_side layout pending n ≡ true → In n goal_then
  side_listed_old n l is = filter_in (changes_side layout pending) n (numbers_up old.edges) (up_in old.edges n l) is

  lives_old : (n : ℕ) → In n layout → In n (numbers old.edges)
  lives_old n i = let l = valid.live n i in subst (λ (m : ℕ). In m (numbers old.edges)) (sym l.2) (link_number old.edges l.0 l.1)

  into : (n : ℕ) → In n (changing new.edges after kept) → In n (layout_after goal_then old new)
  into n i =
      let l = listed_lives new.edges after kept n i in
      let lives = subst (λ (m : ℕ). In m (numbers new.edges)) (sym l.2) (link_number new.edges l.0 l.1) in
      elim (listed_side new.edges after kept n i) as (λ _. In n (layout_after goal_then old new)) [
        | inl h ↦ elim (follows_from layout old new edges n h.0) as (λ _. In n (layout_after goal_then old new)) [
          | inl a ↦ follows_to goal_then old new edges n (inl (side_listed_old n (lives_old n a.0) (goes layout pending n a.0 (λ q. h.1 (still n q lives))), lives))
          | inr c ↦ follows_to goal_then old new edges n (inr c)
        ]
        | inr h ↦
            let q = stays_pending n h.1 in
            follows_to goal_then old new edges n (inl (side_listed_old n (p.live n q) (comes layout pending n (λ a. h.0 (follows_to layout old new edges n (inl (a, lives)))) q), lives))
      ]

  back : (n : ℕ) → In n (layout_after goal_then old new) → In n (changing new.edges after kept)
  back n i = elim (follows_from goal_then old new edges n i) as (λ _. In n (changing new.edges after kept)) [
    | inl h ↦ elim (listed_side old.edges layout pending n h.0) as (λ _. In n (changing new.edges after kept)) [
      | inl a ↦ goes_on n h.1 (goes after kept n (follows_to layout old new edges n (inl (a.0, h.1))) (λ q. a.1 (stays_pending n q)))
      | inr a ↦ goes_on n h.1 (comes after kept n (λ q. elim (follows_from layout old new edges n q) as (λ _. ⊥) [ inl x ↦ a.0 x.0 | inr c ↦ not_new n a.1 c ]) (still n a.1 h.1))
    ]
    | inr c ↦ goes_on n (subst (λ (m : ℕ). In m (numbers new.edges)) (sym c.2) (link_number new.edges c.0 c.1)) (goes after kept n (follows_to layout old new edges n (inr c)) (λ q. not_new n (stays_pending n q) c))
  ]

  -- WHAT IS PENDING STAYS SO, without the operators that are gone: the goal follows the graph as the layout does
  pub pending_after : IsValid (forest new.edges) (layout_after goal_then old new) → IsPending new.edges after kept
  pending_after goal = record {
    ascending = rises_filter (λ k. is_in k (numbers new.edges)) 0 pending p.ascending;
    live = λ n i. in_of_test n (numbers new.edges) (passes (λ k. is_in k (numbers new.edges)) n pending i);
    goal = same_valid (forest new.edges) (layout_after goal_then old new) (changing new.edges after kept) (λ n. (back n, into n)) goal;
  }
