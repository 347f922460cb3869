use Rattle.std.proofs.Common.{take}
use Rattle.pair_rows.specs.Halves.{pick_of}
use Rattle.op_outer_cond.specs.inner.Admitted.{other_of, AreOnce}
use Rattle.op_outer_cond.proofs.admission.are_once.Given as goal

abbrev pub invariant-loop-entry : goal.invariant-loop-entry
invariant-loop-entry l = AreOnce (pick_of l.half) (other_of l.half) l.memory.entries (take l.entry-index l.entries)
