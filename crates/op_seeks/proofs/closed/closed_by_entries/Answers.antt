use Rattle.std.proofs.Common.{◌≡◌, ℕ, List, true, sym, subst}
use Rattle.op_law.specs.Identifiers.{has_id}
use Rattle.op_seeks.proofs.closed.closed_by_entries.Goals as goal

pub returns-clause-absent : goal.returns-clause-absent
returns-clause-absent c =
    c.in_ok-ids.ensures.holds 0 (subst (λ (xs : List ℕ). has_id xs 0 ≡ true) (sym c.as_slice.ensures) c.in_ok-all.ensures.absent)

pub returns-clause-holds : goal.returns-clause-holds
returns-clause-holds c q h =
    c.in_ok-ids.ensures.holds q (subst (λ (xs : List ℕ). has_id xs q ≡ true) (sym c.as_slice.ensures) (c.in_ok-all.ensures.holds q h))
