use Rattle.std.proofs.Common.{◌≡◌, take}
use Rattle.op_law.specs.Tables.{contents}
use Rattle.op_law.specs.Local.{only}
use Rattle.db_state.specs.Parts.{passes}
use Rattle.db_state.proofs.sight.aux_seen.Given as goal

abbrev pub invariant-loop-table : goal.invariant-loop-table
invariant-loop-table l = contents l.tables ≡ only (passes l.sight) (contents (take l.table-index l.table-items))
