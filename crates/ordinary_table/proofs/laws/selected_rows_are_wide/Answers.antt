use Rattle.ordinary_table.proofs.ColumnLaws.{selected_wide}
use Rattle.ordinary_table.proofs.laws.selected_rows_are_wide.Goals as goal

pub returns : goal.returns
returns c = selected_wide
