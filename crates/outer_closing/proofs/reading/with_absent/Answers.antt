use Rattle.std.proofs.Common.{ℕ, List, true, ◌≡◌, sym, subst}
use Rattle.op_law.specs.Identifiers.{has_id}
use Rattle.id_closing.proofs.FoundLaws.{end_has}
use Rattle.outer_closing.proofs.reading.with_absent.Goals as goal

pub returns-clause-absent : goal.returns-clause-absent
returns-clause-absent c =
    c.in_ok-add_all.ensures.stay 0 (subst (λ (xs : List ℕ). has_id xs 0 ≡ true) (sym c.in_ok-push.ensures.ok) (end_has c.new-ids.result 0))
