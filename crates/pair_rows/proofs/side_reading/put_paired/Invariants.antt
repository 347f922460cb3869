use Rattle.std.proofs.Common.{◌≡◌, ◌≤◌, length, drop}
use Rattle.pair_rows.specs.Kept.{ids_paired}
use Rattle.pair_rows.specs.Halves.{pick_of}
use Rattle.pair_rows.proofs.side_reading.put_paired.Given as goal

abbrev pub invariant-loop-left : goal.invariant-loop-left
invariant-loop-left l = record {
  within : l.left ≤ length l.entries;
  ids : l.ids ≡ ids_paired (pick_of l.half) (drop l.left l.entries) l.fn.ids;
}

abbrev pub decreases-loop-left : goal.decreases-loop-left
decreases-loop-left l = l.left
