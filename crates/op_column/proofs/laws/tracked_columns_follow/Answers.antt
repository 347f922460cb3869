use Rattle.op_column.proofs.TrackedFollowsLemmas.{deviating_kept, other_follows, equal_not_kept, deviating_beside}
use Rattle.op_column.proofs.laws.tracked_columns_follow.Goals as goal

pub returns-clause-kept : goal.returns-clause-kept
returns-clause-kept c = deviating_kept

pub returns-clause-follows : goal.returns-clause-follows
returns-clause-follows c = other_follows

pub returns-clause-equal : goal.returns-clause-equal
returns-clause-equal c = equal_not_kept

pub returns-clause-beside : goal.returns-clause-beside
returns-clause-beside c = deviating_beside
