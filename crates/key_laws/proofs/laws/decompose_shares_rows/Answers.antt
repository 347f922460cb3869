use Rattle.key_laws.proofs.DecomposedLemmas.{parts_share, null_refers, known_found, known_draws_nothing, row_goes}
use Rattle.key_laws.proofs.laws.decompose_shares_rows.Goals as goal

pub returns-clause-shared : goal.returns-clause-shared
returns-clause-shared c = parts_share

pub returns-clause-null : goal.returns-clause-null
returns-clause-null c = null_refers

pub returns-clause-found : goal.returns-clause-found
returns-clause-found c = known_found

pub returns-clause-draws_nothing : goal.returns-clause-draws_nothing
returns-clause-draws_nothing c = known_draws_nothing

pub returns-clause-goes : goal.returns-clause-goes
returns-clause-goes c = row_goes
