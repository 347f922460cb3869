use Rattle.std.proofs.Common.{ℕ, List, take}
use Rattle.pair_rows.specs.Shown.{AreThere}
use Rattle.outer_law.specs.Entries.{with_absent}
use Rattle.op_outer_cond.proofs.admission.are_there.Given as goal

abbrev pub invariant-loop-entry : goal.invariant-loop-entry
invariant-loop-entry l = (first second : List ℕ) → AreThere (with_absent first l.s.rows) (with_absent second l.t.rows) (take l.entry-index l.entries)
