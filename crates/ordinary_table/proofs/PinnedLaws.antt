-- The row of the identifier that a condition pins is all that may meet it.
use Rattle.std.specs.Prelude.{◌&&◌, ◌<◌}
use Rattle.std.specs.List.{filter}
use Rattle.std.proofs.Common.{◌≡◌, ◌∙◌, ℕ, zero, ◌+◌, ◌==◌, List, [], ◌∷◌, Bool, true, false, Option, Some, None, refl, ap, sym, arith}
use Rattle.std.proofs.lemmas.Bool.Decides.{nat_tests}
use Rattle.std.proofs.lemmas.Bool.{and_parts}
use Rattle.par_base.specs.declared.value.Value.{Value}
use Rattle.par_base.specs.declared.value.Value.TheVariants.{Reference}
use Rattle.expr_lang.specs.declared.tree.BinaryOp.TheVariants.{And, Equal}
use Rattle.expr_lang.specs.Operations.{is_true, truth}
use Rattle.expr_lang.specs.Terms.{Term, Literal, Column, Binary}
use Rattle.expr_lang.specs.Val.{holds_at, val}
use Rattle.row_store.specs.Rows.{Rows, RiseFrom}
use Rattle.ordinary_table.specs.Shown.{meets, row_alone, shown}
use Rattle.ordinary_table.specs.Pinned.{PinnedStandAlone, compared_id, first_of, pinned}

truth_of : (b : Bool) → is_true (truth b) ≡ true → b ≡ true
truth_of true h = refl
truth_of false h = h

some_is : (a b : ℕ) → Some a ≡ Some b → a ≡ b
some_is a b h = cc

-- a comparison of `p` with a reference holds at that identifier alone
compared_at : (t u : Term ℕ) (id : ℕ) (r : ℕ × List Value) → compared_id t u ≡ Some id → holds_at (Binary Equal t u) (shown r) ≡ true → r.0 ≡ id
unfolding val
compared_at (Column zero) (Literal (Reference other)) id r is holds =
    let same : r.0 ≡ other = grind (arith, nat_tests, truth_of _ holds) in
    same ∙ some_is other id is
compared_at _ _ id r is holds = absurd (cc)

-- of two conditions one pins it
either_at : (a b : Option ℕ) (id own : ℕ) → first_of a b ≡ Some id → (a ≡ Some id → own ≡ id) → (b ≡ Some id → own ≡ id) → own ≡ id
either_at (Some x) b id own is left right = left is
either_at None b id own is left right = right is

-- the pinned identifier is that of each row at which the condition holds
pub pinned_at : (t : Term ℕ) (id : ℕ) (r : ℕ × List Value) → pinned t ≡ Some id → holds_at t (shown r) ≡ true → r.0 ≡ id
unfolding pinned val
pinned_at (Binary Equal t u) id r is holds = compared_at t u id r is holds
pinned_at (Binary And t u) id r is holds =
    let both = and_parts (holds_at t (shown r)) (holds_at u (shown r)) (truth_of (holds_at t (shown r) && holds_at u (shown r)) holds) in
    either_at (pinned t) (pinned u) id r.0 is (λ here. pinned_at t id r here both.0) (λ here. pinned_at u id r here both.1)
pinned_at _ id r is holds = absurd (cc)

module _ (condition : Term ℕ) (id : ℕ) (is : pinned condition ≡ Some id) where
  abbrev P : ℕ × List Value → Bool
  P = meets (Some condition)

  other_fails : (r : ℕ × List Value) → (r.0 ≡ id → ⊥) → P r ≡ false
  other_fails r other = by_test (P r) refl
    where
      by_test : (b : Bool) → P r ≡ b → P r ≡ false
      by_test false e = e
      by_test true e = absurd (other (pinned_at condition id r is e))

  none_behind : (n : ℕ) (rows : Rows) → id < n → RiseFrom n rows → filter P rows ≡ []
  none_behind n [] less rise = refl
  none_behind n (r ∷ rs) less rise =
      let fails = other_fails r (λ same. let up = rise.0 in omega (arith, less, up, same)) in
      rw fails (none_behind (r.0 + 1) rs (let up = rise.0 in omega (arith, less, up)) rise.1)

  same_chosen : (n : ℕ) (rows : Rows) → RiseFrom n rows → filter P rows ≡ filter P (row_alone rows id)
  same_chosen n [] rise = refl
  same_chosen n (r ∷ rs) rise = by_id (r.0 == id) refl (same_chosen (r.0 + 1) rs rise.1)
    where
      by_id : (b : Bool) → (r.0 == id) ≡ b → filter P rs ≡ filter P (row_alone rs id) → filter P (r ∷ rs) ≡ filter P (row_alone (r ∷ rs) id)
      by_id true e rest =
          let same : r.0 ≡ id = grind (arith, nat_tests, e) in
          let none = none_behind (r.0 + 1) rs (omega (arith, same)) rise.1 in
          let own : (id, r.1) ≡ r = ap (λ (k : ℕ). (k, r.1)) (sym same) in
          let alone : row_alone (r ∷ rs) id ≡ r ∷ [] = rw e (ap (λ (x : ℕ × List Value). x ∷ []) own) in
          let front : filter P (r ∷ rs) ≡ filter P (r ∷ []) = rw none refl in
          front ∙ ap (λ (rows : Rows). filter P rows) (sym alone)
      by_id false e rest =
          let fails = other_fails r (λ same. let e = e in grind (arith, nat_tests)) in
          rw (e, fails) rest

pub pinned_stand_alone : PinnedStandAlone
pinned_stand_alone condition id rows rise is = record { rises = rise; same = same_chosen condition id is 0 rows rise }
