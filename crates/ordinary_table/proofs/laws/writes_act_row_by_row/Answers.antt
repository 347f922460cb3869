use Rattle.ordinary_table.proofs.RowOfLaws.{row_of_inserted, row_of_updated, row_of_deleted}
use Rattle.ordinary_table.proofs.laws.writes_act_row_by_row.Goals as goal

pub returns-clause-insert : goal.returns-clause-insert
returns-clause-insert c = row_of_inserted

pub returns-clause-update : goal.returns-clause-update
returns-clause-update c = row_of_updated

pub returns-clause-delete : goal.returns-clause-delete
returns-clause-delete c = row_of_deleted 0
