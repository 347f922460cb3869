use Rattle.std.proofs.Common.{◌≡◌, ℕ, ◌-◌, ◌^◌, ◌<◌, Some, false}
use Rattle.row_store.specs.Rows.{row_of}
use Rattle.table_keys.specs.States.{behind}
use Rattle.pair_rows.specs.Halves.{pick_of}
use Rattle.pair_rows.specs.Stays.{stands}
use Rattle.outer_closing.specs.Shared.{shared_in}
use Rattle.outer_closing.proofs.shared.least_shared.Given as goal

abbrev pub invariant-loop-id : goal.invariant-loop-id
invariant-loop-id l = (q : ℕ) → row_of l.keys.rows q ≡ Some l.values → q < behind l.after → stands (pick_of l.half) (shared_in l.memory.entries l.replaced) q ≡ false

abbrev pub decreases-loop-id : goal.decreases-loop-id
decreases-loop-id l = 2 ^ 64 - behind l.after
