use Rattle.std.proofs.Common.{◌≡◌, map, take}
use Rattle.op_law.specs.Tables.{contents}
use Rattle.version_model.specs.Kept.{rows_now}
use Rattle.version_model.proofs.now.side_now.Given as goal

abbrev pub invariant-loop-number : goal.invariant-loop-number
invariant-loop-number l = contents l.tables ≡ map (rows_now l.kept l.made) (take l.number-index l.numbers)
