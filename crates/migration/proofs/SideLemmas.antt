-- Who changes sides between two layouts.
use Rattle.std.specs.Prelude.{◌⊎◌}
use Rattle.std.proofs.Common.{◌≡◌, ℕ, List, true, not, inl, inr, sym, ap, ◌∙◌, subst}
use Rattle.std.proofs.lemmas.Bool.{cond-false, cond-true, false≢true}
use Rattle.std.proofs.lemmas.List.{reverse-reverse}
use Rattle.version_graph.specs.Sets.{In}
use Rattle.version_graph.specs.Edges.{is_in, numbers}
use Rattle.version_graph.specs.Forest.{Link, forest}
use Rattle.version_graph.specs.declared.parts.Placed.{Placed}
use Rattle.version_graph.proofs.SetLaws.{is_in_true}
use Rattle.version_graph.proofs.TableLaws.{in_filter, passes}
use Rattle.version_graph.proofs.WalkStepLaws.{in_reverse}
use Rattle.layout_rules.specs.Layouts.{Lives}
use Rattle.layout_rules.specs.Lookups.{numbers_up}
use Rattle.layout_rules.proofs.ChangeLaws.{filter_in, link_number, number_lives}
use Rattle.layout_rules.proofs.LinkLaws.{in_or_out}
use Rattle.storage_law.proofs.LinkLaws.{not_in_false, same_test}
use Rattle.migration.specs.Sides.{changes_side, changing}

-- a number is among the ascending operators exactly where it lives
pub up_in : {O : Type 0} (es : List (Placed O)) (n : ℕ) → In n (numbers es) → In n (numbers_up es)
up_in es n i = in_reverse n (numbers es) i

pub up_lives : {O : Type 0} (es : List (Placed O)) (n : ℕ) → In n (numbers_up es) → In n (numbers es)
up_lives es n i = subst (λ (l : List ℕ). In n l) (reverse-reverse (numbers es)) (in_reverse n (numbers_up es) i)

-- who is in the first layout alone changes sides
pub goes : (layout goal : List ℕ) (n : ℕ) → In n layout → (In n goal → ⊥) → changes_side layout goal n ≡ true
goes layout goal n i out = cond-true (is_in n layout) (not (is_in n goal)) (is_in n goal) (is_in_true n layout i) ∙ ap not (not_in_false n goal out)

-- and so does who is in the second one alone
pub comes : (layout goal : List ℕ) (n : ℕ) → (In n layout → ⊥) → In n goal → changes_side layout goal n ≡ true
comes layout goal n out i = cond-false (is_in n layout) (not (is_in n goal)) (is_in n goal) (not_in_false n layout out) ∙ is_in_true n goal i

-- nobody else does
pub side_told : (layout goal : List ℕ) (n : ℕ) → changes_side layout goal n ≡ true → (In n layout × (In n goal → ⊥)) ⊎ ((In n layout → ⊥) × In n goal)
side_told layout goal n is =
    elim (in_or_out n layout) as (λ _. (In n layout × (In n goal → ⊥)) ⊎ ((In n layout → ⊥) × In n goal)) [
      | inl i ↦
          let told : not (is_in n goal) ≡ true = sym (cond-true (is_in n layout) (not (is_in n goal)) (is_in n goal) (is_in_true n layout i)) ∙ is in
          inl (i, (λ j. false≢true (sym (ap not (is_in_true n goal j)) ∙ told)))
      | inr out ↦
          elim (in_or_out n goal) as (λ _. (In n layout × (In n goal → ⊥)) ⊎ ((In n layout → ⊥) × In n goal)) [
            | inl j ↦ inr (out, j)
            | inr none ↦ absurd (false≢true (sym (not_in_false n goal none) ∙ sym (cond-false (is_in n layout) (not (is_in n goal)) (is_in n goal) (not_in_false n layout out)) ∙ is))
          ]
    ]

module _ {O : Type 0} (es : List (Placed O)) (layout goal : List ℕ) where
  -- a live operator that changes sides is listed
  pub side_listed : (e : Link O) → In e (forest es) → changes_side layout goal e.number ≡ true → In e.number (changing es layout goal)
  side_listed e i is = filter_in (changes_side layout goal) e.number (numbers_up es) (up_in es e.number (link_number es e i)) is

  -- who is listed lives, and is in one layout alone
  pub listed_lives : (n : ℕ) → In n (changing es layout goal) → Lives (forest es) n
  listed_lives n i = number_lives es n (up_lives es n (in_filter (changes_side layout goal) n (numbers_up es) i))

  pub listed_side : (n : ℕ) → In n (changing es layout goal) → (In n layout × (In n goal → ⊥)) ⊎ ((In n layout → ⊥) × In n goal)
  listed_side n i = side_told layout goal n (passes (changes_side layout goal) n (numbers_up es) i)

  -- who isn't listed stays on its side
  pub same_side : (e : Link O) → In e (forest es) → (In e.number (changing es layout goal) → ⊥) → is_in e.number layout ≡ is_in e.number goal
  same_side e i out =
      same_test e.number layout goal (
        (λ a. elim (in_or_out e.number goal) as (λ _. In e.number goal) [ inl b ↦ b | inr none ↦ absurd (out (side_listed e i (goes layout goal e.number a none))) ]),
        (λ b. elim (in_or_out e.number layout) as (λ _. In e.number layout) [ inl a ↦ a | inr none ↦ absurd (out (side_listed e i (comes layout goal e.number none b))) ]),
      )
