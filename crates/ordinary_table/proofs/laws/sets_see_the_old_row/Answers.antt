use Rattle.ordinary_table.proofs.ColumnLaws.{columns_set, columns_kept}
use Rattle.ordinary_table.proofs.laws.sets_see_the_old_row.Goals as goal

pub returns-clause-set : goal.returns-clause-set
returns-clause-set c = columns_set

pub returns-clause-kept : goal.returns-clause-kept
returns-clause-kept c = columns_kept
