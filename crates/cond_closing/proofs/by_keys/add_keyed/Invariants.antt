use Rattle.std.proofs.Common.{◌≡◌, ℕ, ◌-◌, ◌^◌, ◌<◌, Some, true}
use Rattle.row_store.specs.Rows.{row_of}
use Rattle.op_law.specs.Identifiers.{has_id}
use Rattle.table_keys.specs.States.{behind}
use Rattle.id_closing.specs.Found.{AreAmong}
use Rattle.cond_closing.proofs.by_keys.add_keyed.Given as goal

abbrev pub invariant-loop-next : goal.invariant-loop-next
invariant-loop-next l = record {
  keyed : (b : ℕ) → b < behind l.after → row_of l.keys.rows b ≡ Some l.key → has_id l.ids b ≡ true;
  stay : AreAmong l.fn.ids l.ids;
}

abbrev pub decreases-loop-next : goal.decreases-loop-next
decreases-loop-next l = 2 ^ 64 - behind l.after
