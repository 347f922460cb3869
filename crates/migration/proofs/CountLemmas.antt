-- A move has as many flips as operators change sides.
use Rattle.std.proofs.Common.{◌≡◌, ℕ, zero, suc, List, [], ◌∷◌, Bool, true, false, not, cond, filter, length, inl, inr, refl, sym, ap, ◌∙◌, subst, arith}
use Rattle.std.proofs.lemmas.Bool.{cond-false, cond-true}
use Rattle.version_graph.specs.Sets.{In}
use Rattle.version_graph.specs.Edges.{AreEdges, Rises, is_in}
use Rattle.version_graph.specs.Forest.{forest}
use Rattle.version_graph.specs.declared.parts.Placed.{Placed}
use Rattle.version_graph.proofs.TableLaws.{rises_above}
use Rattle.layout_rules.specs.Lookups.{numbers_up}
use Rattle.layout_rules.specs.Moves.{Flips, Moves, SameOperators}
use Rattle.layout_rules.proofs.ChangeLaws.{link_number}
use Rattle.layout_rules.proofs.CloseLaws.{numbers_rise}
use Rattle.storage_law.proofs.LinkLaws.{not_in_false, same_test}
use Rattle.migration.specs.Sides.{changes_side, flip_count}
use Rattle.migration.proofs.SideLemmas.{comes, goes, up_in}

-- two tests that agree on each number of a list keep the same of it
pub kept_same : (p q : ℕ → Bool) (xs : List ℕ) → ((m : ℕ) → In m xs → p m ≡ q m) → filter p xs ≡ filter q xs
kept_same p q [] agree = refl
kept_same p q (x ∷ xs) agree =
    let rest = kept_same p q xs (λ m i. agree m (inr i)) in
    let same = agree x (inl refl) in
    ap (λ (l : List ℕ). cond (p x) (x ∷ l) l) rest ∙ ap (λ (b : Bool). cond b (x ∷ filter q xs) (filter q xs)) same

-- a test that lets one number less pass than another keeps one less of a list that rises and has it
pub one_less : (p q : ℕ → Bool) (n least : ℕ) (xs : List ℕ) → Rises least xs → In n xs → p n ≡ true → q n ≡ false
    → ((m : ℕ) → (m ≡ n → ⊥) → p m ≡ q m) → length (filter p xs) ≡ suc (length (filter q xs))
one_less p q n least [] rises i passes fails agree = absurd i
one_less p q n least (x ∷ xs) rises (inl same) passes fails agree =
    let others : (m : ℕ) → In m xs → m ≡ n → ⊥ = λ m i e. let less = rises_above x xs rises.1 m i in omega arith in
    let rest = kept_same p q xs (λ m i. agree m (others m i)) in
    let with_it = cond-true (p x) (x ∷ filter p xs) (filter p xs) (ap p (sym same) ∙ passes) in
    let without = cond-false (q x) (x ∷ filter q xs) (filter q xs) (ap q (sym same) ∙ fails) in
    ap length with_it ∙ ap (λ (l : List ℕ). suc (length l)) rest ∙ ap (λ (l : List ℕ). suc (length l)) (sym without)
one_less p q n least (x ∷ xs) rises (inr i) passes fails agree =
    let less = rises_above x xs rises.1 n i in
    let other : x ≡ n → ⊥ = λ e. omega arith in
    let rest = one_less p q n x xs rises.1 i passes fails agree in
    let same = agree x other in
    ap (λ (b : Bool). length (cond b (x ∷ filter p xs) (filter p xs))) same
    ∙ elim (q x) as (λ b. length (cond b (x ∷ filter p xs) (filter p xs)) ≡ suc (length (cond b (x ∷ filter q xs) (filter q xs)))) [
      | true ↦ ap suc rest
      | false ↦ rest
    ]

-- a test that nothing passes keeps nothing
none_kept : (p : ℕ → Bool) (xs : List ℕ) → ((m : ℕ) → p m ≡ false) → length (filter p xs) ≡ 0
none_kept p [] none = refl
none_kept p (x ∷ xs) none = ap length (cond-false (p x) (x ∷ filter p xs) (filter p xs) (none x)) ∙ none_kept p xs none

-- who is in both layouts or in neither stays on its side
stays_in_both : (layout goal : List ℕ) (n : ℕ) → is_in n layout ≡ is_in n goal → changes_side layout goal n ≡ false
stays_in_both layout goal n same =
    ap (λ (b : Bool). cond b (not (is_in n goal)) (is_in n goal)) same
    ∙ elim (is_in n goal) as (λ b. cond b (not b) b ≡ false) [ true ↦ refl | false ↦ refl ]

-- an operator whose place in the layout didn't change changes sides as before
side_same : (layout new goal : List ℕ) (m : ℕ) → is_in m new ≡ is_in m layout → changes_side layout goal m ≡ changes_side new goal m
side_same layout new goal m same = ap (λ (b : Bool). cond b (not (is_in m goal)) (is_in m goal)) (sym same)

module _ {O : Type 0} (es : List (Placed O)) (edges : AreEdges es) (goal : List ℕ) where
  -- after a flip one operator less changes sides
  flip_counts : (layout new : List ℕ) → Flips (forest es) goal layout new → flip_count es layout goal ≡ suc (flip_count es new goal)
  flip_counts layout new (e, inl (down, out)) =
      one_less (changes_side layout goal) (changes_side new goal) e.number 0 (numbers_up es) (numbers_rise es edges)
      (up_in es e.number (link_number es e down.lives))
      (goes layout goal e.number down.stored down.unwanted)
      (stays_in_both new goal e.number (not_in_false e.number new out.gone ∙ sym (not_in_false e.number goal down.unwanted)))
      (λ m other. side_same layout new goal m (same_test m new layout (out.others m other)))
  flip_counts layout new (e, inr (up, put)) =
      one_less (changes_side layout goal) (changes_side new goal) e.number 0 (numbers_up es) (numbers_rise es edges)
      (up_in es e.number (link_number es e up.lives))
      (comes layout goal e.number up.missing up.wanted)
      (stays_in_both new goal e.number (same_test e.number new goal ((λ i. up.wanted), (λ i. put.there))))
      (λ m other. side_same layout new goal m (same_test m new layout (put.others m other)))

  -- a move that ends at its goal has as many flips as operators change sides
  pub moves_count : (n : ℕ) (layout last : List ℕ) → Moves (forest es) goal n layout last → SameOperators last goal → n ≡ flip_count es layout goal
  moves_count zero layout last same ends =
      sym (none_kept (changes_side layout goal) (numbers_up es)
      (λ m. stays_in_both layout goal m (same_test m layout goal (subst (λ (l : List ℕ). SameOperators l goal) (sym same) ends m))))
  moves_count (suc n) layout last (next, flips, moves) ends =
      ap suc (moves_count n next last moves ends) ∙ sym (flip_counts layout next flips)
