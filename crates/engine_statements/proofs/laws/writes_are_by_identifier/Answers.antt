use Rattle.engine_statements.proofs.ChosenLemmas.{deletes_chosen, inserts_rows, updates_chosen}
use Rattle.engine_statements.proofs.laws.writes_are_by_identifier.Goals as goal

pub returns-clause-inserts : goal.returns-clause-inserts
returns-clause-inserts c = inserts_rows

pub returns-clause-updates : goal.returns-clause-updates
returns-clause-updates c = updates_chosen

pub returns-clause-deletes : goal.returns-clause-deletes
returns-clause-deletes c = deletes_chosen
