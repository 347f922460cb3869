use Rattle.std.proofs.Common.{◌≡◌, map, take}
use Rattle.op_law.specs.Tables.{contents}
use Rattle.changes_walk.proofs.before.side_before.Given as goal

abbrev pub invariant-loop-number : goal.invariant-loop-number
invariant-loop-number g l = contents l.tables ≡ map (g.D.StateRead.state l.rows).tables (take l.number-index l.numbers)
