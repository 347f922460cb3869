use Rattle.session_laws.proofs.MoveLemmas.{leads_to_named, stores_named}
use Rattle.session_laws.proofs.laws.moves_store_what_they_name.Goals as goal

pub returns-clause-moved : goal.returns-clause-moved
returns-clause-moved c = stores_named c.moves_store_targets.ensures

pub returns-clause-started : goal.returns-clause-started
returns-clause-started c = leads_to_named c.moves_store_targets.ensures
