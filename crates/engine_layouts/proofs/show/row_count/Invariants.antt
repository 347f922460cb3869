use Rattle.std.proofs.Common.{◌≡◌, take}
use Rattle.op_law.specs.Tables.{contents}
use Rattle.engine_layouts.specs.Shown.{row_count}
use Rattle.engine_layouts.proofs.show.row_count.Given as goal

abbrev pub invariant-loop-table : goal.invariant-loop-table
invariant-loop-table l = l.total ≡ row_count (contents (take l.table-index l.tables))
