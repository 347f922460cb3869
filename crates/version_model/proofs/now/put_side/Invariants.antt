use Rattle.std.proofs.Common.{◌≡◌, ◌≤◌, List, take, drop, length}
use Rattle.row_store.specs.States.{TableState}
use Rattle.op_law.specs.Tables.{contents}
use Rattle.version_model.specs.Put.{put}
use Rattle.version_model.specs.Kept.{rows_now}
use Rattle.version_model.specs.declared.numbered.Numbered.{Numbered}
use Rattle.version_model.proofs.now.put_side.Given as goal

abbrev pub invariant-loop-value : goal.invariant-loop-value
invariant-loop-value l = record {
  left : contents l.tables ≡ take (length l.tables) l.fn.side;
  within : length l.tables ≤ length l.fn.side;
  so_far : (kept : List (Numbered TableState)) → rows_now kept l.made ≡ put (rows_now kept l.fn.made) (drop (length l.tables) l.fn.numbers) (drop (length l.tables) l.fn.side);
}

abbrev pub decreases-loop-value : goal.decreases-loop-value
decreases-loop-value l = length l.tables
