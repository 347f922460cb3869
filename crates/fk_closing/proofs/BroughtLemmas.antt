-- What an identifier brings, from what is found for it.
use Rattle.std.proofs.Common.{◌≡◌, ℕ, ◌+◌, ◌<◌, List, [], ◌∷◌, ◌++◌, Bool, true, false, Option, Some, None, ap, ◌∙◌, subst, refl, arith}
use Rattle.std.proofs.lemmas.Bool.{cases_lt}
use mathlib.Core.Logic.{inl, inr}
use Rattle.par_base.specs.declared.value.Value.{Value}
use Rattle.row_store.specs.Rows.{Rows, row_of}
use Rattle.op_law.specs.Identifiers.{has_id}
use Rattle.id_closing.specs.Found.{added}
use Rattle.fk_closing.specs.Looking.{goal_at, goal_in, IsNextRef}
use Rattle.fk_closing.specs.Brought.{Rule, IsBrought, IsWitnessBy, WitnessBrought}
use Rattle.id_closing.proofs.FoundLaws.{added_has, added_stays, end_has, end_stays}

module _ (rule : Rule) (q : ℕ) where
  witness_found : (b : Bool) (found : Option ℕ) (more : List ℕ) → ((g : ℕ) → found ≡ Some g → has_id more g ≡ true) → IsWitnessBy rule b q found → WitnessBrought rule b q more
  witness_found false found more has is = tt
  witness_found true None more has is = λ w v still at goal. absurd (is w v still at goal)
  witness_found true (Some x) more has is = λ w v still at goal. record { id = x; refers = is.1; stays = is.0; among = has x refl }

  -- WHAT IS FOUND IS WHAT IS BROUGHT
  pub found_is_brought : (a c : Option ℕ) → a ≡ goal_in 0 (row_of rule.keys q) → IsWitnessBy rule rule.witness q c → IsBrought rule q (added (added [] a) c)
  found_is_brought a c goal witness = record {
    goal = λ v at g to. let found : a ≡ Some g = goal ∙ ap (goal_in 0) at ∙ to in added_stays (added [] a) c g (added_has [] a g found);
    witness = witness_found rule.witness c (added (added [] a) c) (λ g e. added_has (added [] a) c g e) witness;
  }

-- one row more that refers to q
pub refs_more : (place : ℕ) (s : Rows) (q from : ℕ) (ids : List ℕ) (next : ℕ) (found : Option ℕ) → found ≡ Some next → IsNextRef place s q from found
    → ((p : ℕ) (v : List Value) → p < from → row_of s p ≡ Some v → goal_at place v ≡ Some q → has_id ids p ≡ true)
    → (p : ℕ) (v : List Value) → p < next + 1 → row_of s p ≡ Some v → goal_at place v ≡ Some q → has_id (ids ++ next ∷ []) p ≡ true
refs_more place s q from ids next found is first has p v low at goal =
    elim (cases_lt p from) [
      | inl h ↦ end_stays ids next p (has p v h at goal)
      | inr h ↦
          let f = subst (λ (o : Option ℕ). IsNextRef place s q from o) is first in
          let up = f.least p v h at goal in
          let same : next ≡ p = omega (arith, up, low) in
          subst (λ (x : ℕ). has_id (ids ++ next ∷ []) x ≡ true) same (end_has ids next)
    ]
