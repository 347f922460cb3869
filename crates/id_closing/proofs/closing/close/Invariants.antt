use Rattle.std.proofs.Common.{◌≡◌, ◌⊎◌, ℕ, true}
use Rattle.op_law.specs.Identifiers.{has_id}
use Rattle.id_closing.specs.Found.{AreAmong, AreIds, ids_left, work_left}
use Rattle.id_closing.proofs.closing.close.Given as goal

abbrev pub invariant-loop-next : goal.invariant-loop-next
invariant-loop-next g l = record {
  ids : AreIds l.found;
  begins : AreAmong l.begin l.found;
  followed : (q : ℕ) → has_id l.found q ≡ true → (has_id (ids_left l.left) q ≡ true) ⊎ g.R.Rule.brings l.rule q l.found;
}

abbrev pub decreases-loop-next : goal.decreases-loop-next
decreases-loop-next g l = work_left l.found l.left
