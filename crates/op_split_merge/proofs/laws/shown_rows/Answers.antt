use Rattle.op_split_merge.proofs.ShownLemmas.{new_in_both, new_in_first, new_in_second, new_in_neither, lost_first_stays, lost_second_stays, separated_stay, first_comes_in, second_comes_in, deleted_goes, against_stays}
use Rattle.op_split_merge.proofs.laws.shown_rows.Goals as goal

pub returns-clause-new_in_both : goal.returns-clause-new_in_both
returns-clause-new_in_both c = new_in_both

pub returns-clause-new_in_first : goal.returns-clause-new_in_first
returns-clause-new_in_first c = new_in_first

pub returns-clause-new_in_second : goal.returns-clause-new_in_second
returns-clause-new_in_second c = new_in_second

pub returns-clause-new_in_neither : goal.returns-clause-new_in_neither
returns-clause-new_in_neither c = new_in_neither

pub returns-clause-lost_first : goal.returns-clause-lost_first
returns-clause-lost_first c = lost_first_stays

pub returns-clause-lost_second : goal.returns-clause-lost_second
returns-clause-lost_second c = lost_second_stays

pub returns-clause-separated : goal.returns-clause-separated
returns-clause-separated c = separated_stay

pub returns-clause-first_comes : goal.returns-clause-first_comes
returns-clause-first_comes c = first_comes_in

pub returns-clause-second_comes : goal.returns-clause-second_comes
returns-clause-second_comes c = second_comes_in

pub returns-clause-deleted : goal.returns-clause-deleted
returns-clause-deleted c = deleted_goes

pub returns-clause-against : goal.returns-clause-against
returns-clause-against c = against_stays
