use Rattle.std.proofs.Common.{◌≡◌, ◌≤◌, take, drop, length}
use Rattle.version_model.specs.Put.{put}
use Rattle.changes_walk.specs.Changing.{latest_changes}
use Rattle.changes_walk.proofs.near.put_side.Given as goal

abbrev pub invariant-loop-value : goal.invariant-loop-value
invariant-loop-value l = record {
  left : l.tables ≡ take (length l.tables) l.fn.side.tables;
  within : length l.tables ≤ length l.fn.side.tables;
  so_far : latest_changes l.made ≡ put (latest_changes l.fn.made) (drop (length l.tables) l.fn.numbers) (drop (length l.tables) l.fn.side.tables);
}

abbrev pub decreases-loop-value : goal.decreases-loop-value
decreases-loop-value l = length l.tables
