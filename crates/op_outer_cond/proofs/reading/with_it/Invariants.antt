use Rattle.std.proofs.Common.{◌≡◌, take}
use Rattle.pair_rows.specs.Halves.{pick_of}
use Rattle.outer_law.specs.OuterOn.{with_it}
use Rattle.op_outer_cond.proofs.reading.with_it.Given as goal

abbrev pub invariant-loop-entry : goal.invariant-loop-entry
invariant-loop-entry l = l.made ≡ with_it (pick_of l.half) (take l.entry-index l.entries)
