-- Tables with equal look-ups are equal.
use Rattle.std.proofs.Common.{◌≡◌, ℕ, ◌+◌, ◌<◌, ◌==◌, [], ◌∷◌, List, true, Some, None, refl, sym, ap, ◌∙◌, subst, arith}
use Rattle.std.proofs.lemmas.Bool.Decides.{nat_tests}
use Rattle.std.proofs.lemmas.Bool.{cases_order, cases_lt, eq-eqb}
use mathlib.Core.Logic.{inl, inr}
use Rattle.par_base.proofs.TestLaws.{apart_below}
use Rattle.par_base.specs.declared.value.Value.{Value}
use Rattle.row_store.specs.Rows.{Rows, RiseFrom, row_of}
use Rattle.row_store.specs.inner.FoundRows.{none_under}

-- two tables that ascend and have the same rows are equal
pub ext : (n : ℕ) (s t : Rows) → RiseFrom n s → RiseFrom n t → ((id : ℕ) → row_of s id ≡ row_of t id) → s ≡ t
ext n [] [] rise_s rise_t same = refl
ext n [] (r ∷ rs) rise_s rise_t same =
    let own = eq-eqb r.0 r.0 refl in
    let e : None ≡ Some r.1 = rw own at (same r.0) in
    cc
ext n (r ∷ rs) [] rise_s rise_t same =
    let own = eq-eqb r.0 r.0 refl in
    let e : Some r.1 ≡ None = rw own at (same r.0) in
    cc
ext n (a ∷ xs) (b ∷ ys) rise_s rise_t same =
    let apart : (p q : ℕ × List Value) (ps qs : Rows) → p.0 < q.0 → RiseFrom (q.0 + 1) qs → row_of (p ∷ ps) p.0 ≡ row_of (q ∷ qs) p.0 → ⊥ =
    λ p q ps qs h rise e.
    let own = eq-eqb p.0 p.0 refl in
    let some : Some p.1 ≡ row_of (q ∷ qs) p.0 = rw own at e in
    let none = none_under q.0 (q ∷ qs) p.0 (omega arith, rise) h in
    cc in
    elim (cases_order a.0 b.0) [
      | inl e ↦
          let own_a = eq-eqb a.0 a.0 refl in
          let own_b : (b.0 == a.0) ≡ true = grind (arith, nat_tests) in
          let some : Some a.1 ≡ Some b.1 = rw (own_a, own_b) at (same a.0) in
          let tail : xs ≡ ys = ext (a.0 + 1) xs ys rise_s.1 (subst (λ (k : ℕ). RiseFrom (k + 1) ys) (sym e) rise_t.1)
          (λ id. elim (cases_lt a.0 id) [
            | inl h ↦
                let not_a = apart_below a.0 id h in
                let not_b = apart_below b.0 id (omega arith) in
                rw (not_a, not_b) at (same id)
            | inr h ↦ none_under (a.0 + 1) xs id rise_s.1 (omega arith) ∙ sym (none_under (b.0 + 1) ys id rise_t.1 (omega arith))
          ]) in
          let row : a.1 ≡ b.1 = cc in
          let head : ◌≡◌ {A = ℕ × List Value} (a.0, a.1) (b.0, b.1) = ap (λ (k : ℕ). (k, a.1)) e ∙ ap (λ (v : List Value). (b.0, v)) row in
          cc
      | inr (inl h) ↦ absurd (apart a b xs ys h rise_t.1 (same a.0))
      | inr (inr h) ↦ absurd (apart b a ys xs h rise_s.1 (sym (same b.0)))
    ]
