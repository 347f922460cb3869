use Rattle.key_laws.proofs.JoinedByKeyLemmas.{part_keeps, parts_refer_alike, least_found, old_values_draw_nothing, other_rows_stay, deleted_goes}
use Rattle.key_laws.proofs.laws.join_finds_rows.Goals as goal

pub returns-clause-kept : goal.returns-clause-kept
returns-clause-kept c = part_keeps

pub returns-clause-shared : goal.returns-clause-shared
returns-clause-shared c = parts_refer_alike

pub returns-clause-found : goal.returns-clause-found
returns-clause-found c = least_found

pub returns-clause-draws_nothing : goal.returns-clause-draws_nothing
returns-clause-draws_nothing c = old_values_draw_nothing

pub returns-clause-stay : goal.returns-clause-stay
returns-clause-stay c = other_rows_stay

pub returns-clause-goes : goal.returns-clause-goes
returns-clause-goes c = deleted_goes
