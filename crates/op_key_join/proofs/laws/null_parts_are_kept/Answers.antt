use Rattle.op_key_join.proofs.KeptRowLemmas.{null_part_makes_no_row, null_row_stays, row_of_neither_stays, row_of_targets_goes}
use Rattle.op_key_join.proofs.laws.null_parts_are_kept.Goals as goal

pub returns-clause-no_row : goal.returns-clause-no_row
returns-clause-no_row c = null_part_makes_no_row

pub returns-clause-stays : goal.returns-clause-stays
returns-clause-stays c = null_row_stays

pub returns-clause-neither : goal.returns-clause-neither
returns-clause-neither c = row_of_neither_stays

pub returns-clause-goes : goal.returns-clause-goes
returns-clause-goes c = row_of_targets_goes
