use Rattle.std.proofs.Common.{◌≡◌, ℕ, ◌-◌, ◌^◌, ◌<◌, Some, true}
use Rattle.row_store.specs.Rows.{row_of}
use Rattle.table_keys.specs.States.{behind}
use Rattle.fk_closing.specs.Keys.{alone_among}
use Rattle.fk_closing.proofs.keys.FkKeys.least_shared.Given as goal

abbrev pub invariant-loop-id : goal.invariant-loop-id
invariant-loop-id l = (p : ℕ) → p < behind l.after → row_of l.self.rows p ≡ Some l.key → alone_among l.self p ≡ true

abbrev pub decreases-loop-id : goal.decreases-loop-id
decreases-loop-id l = 2 ^ 64 - behind l.after
