use Rattle.std.proofs.Common.{◌≡◌, ◌≤◌, ℕ, length, drop}
use Rattle.id_sets.specs.IdNumbers.{number_of_id}
use Rattle.pair_rows.specs.Kept.{partner}
use Rattle.pair_rows.specs.Halves.{pick_of}
use Rattle.pair_rows.proofs.side_reading.partners.Given as goal

abbrev pub invariant-loop-left : goal.invariant-loop-left
invariant-loop-left l = record {
  within : l.left ≤ length l.entries;
  found : (id : ℕ) → number_of_id l.made id ≡ partner (pick_of l.half) (drop l.left l.entries) id;
}

abbrev pub decreases-loop-left : goal.decreases-loop-left
decreases-loop-left l = l.left
