use Rattle.key_laws.proofs.PairsGivenLemmas.{row_keeps, in_none_stays, in_a_pair_stays, goes_with_last, parts_share_a_row}
use Rattle.key_laws.proofs.laws.joined_rows_keep_pairs.Goals as goal

pub returns-clause-kept : goal.returns-clause-kept
returns-clause-kept c = row_keeps

pub returns-clause-stay : goal.returns-clause-stay
returns-clause-stay c = in_none_stays

pub returns-clause-taken : goal.returns-clause-taken
returns-clause-taken c = in_a_pair_stays

pub returns-clause-goes : goal.returns-clause-goes
returns-clause-goes c = goes_with_last

pub returns-clause-shared : goal.returns-clause-shared
returns-clause-shared c = parts_share_a_row
