use Rattle.session_laws.proofs.KeptLemmas.{databases_kept, empty_kept, statements_keep}
use Rattle.session_laws.proofs.laws.statements_keep_states.Goals as goal

pub returns-clause-empty : goal.returns-clause-empty
returns-clause-empty c = empty_kept

pub returns-clause-loaded : goal.returns-clause-loaded
returns-clause-loaded c = databases_kept

pub returns-clause-one : goal.returns-clause-one
returns-clause-one c = statements_keep
