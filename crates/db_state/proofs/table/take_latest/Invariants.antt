use Rattle.std.proofs.Common.{◌≡◌, [], length}
use Rattle.version_model.specs.Kept.{rows_now}
use Rattle.db_state.proofs.table.take_latest.Given as goal

abbrev pub invariant-loop-item : goal.invariant-loop-item
invariant-loop-item l = rows_now [] l.left l.number ≡ rows_now [] l.fn.tables l.number

abbrev pub decreases-loop-item : goal.decreases-loop-item
decreases-loop-item l = length l.left
