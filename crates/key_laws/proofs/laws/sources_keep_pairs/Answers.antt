use Rattle.key_laws.proofs.PairsShownLemmas.{rows_keep, deleted_stays_away, match_is_shown, unmatched_pair_goes, put_pair_stays}
use Rattle.key_laws.proofs.laws.sources_keep_pairs.Goals as goal

pub returns-clause-kept : goal.returns-clause-kept
returns-clause-kept c = rows_keep

pub returns-clause-deleted : goal.returns-clause-deleted
returns-clause-deleted c = deleted_stays_away

pub returns-clause-shown : goal.returns-clause-shown
returns-clause-shown c = match_is_shown

pub returns-clause-goes : goal.returns-clause-goes
returns-clause-goes c = unmatched_pair_goes

pub returns-clause-put : goal.returns-clause-put
returns-clause-put c = put_pair_stays
