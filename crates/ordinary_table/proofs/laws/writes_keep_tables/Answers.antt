use Rattle.ordinary_table.proofs.KeptLaws.{insert_keeps, update_keeps, delete_keeps}
use Rattle.ordinary_table.proofs.laws.writes_keep_tables.Goals as goal

pub returns-clause-insert : goal.returns-clause-insert
returns-clause-insert c = insert_keeps

pub returns-clause-update : goal.returns-clause-update
returns-clause-update c = update_keeps

pub returns-clause-delete : goal.returns-clause-delete
returns-clause-delete c = delete_keeps
