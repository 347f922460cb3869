use Rattle.std.proofs.Common.{◌≡◌, map, take}
use Rattle.op_law.specs.Tables.{contents}
use Rattle.version_model.specs.Kept.{rows_now}
use Rattle.db_state.specs.Parts.{seen_of}
use Rattle.db_state.proofs.sight.side_seen.Given as goal

abbrev pub invariant-loop-number : goal.invariant-loop-number
invariant-loop-number l = contents l.tables ≡ map (seen_of l.sight (rows_now l.kept l.made)) (take l.number-index l.numbers)
