use Rattle.transaction_laws.proofs.BeginLemmas.{databases_orderly, empty_orderly}
use Rattle.transaction_laws.proofs.SerialLemmas.{transactions_serial}
use Rattle.transaction_laws.proofs.laws.transactions_are_serial.Goals as goal

pub returns-clause-serial : goal.returns-clause-serial
returns-clause-serial c = transactions_serial

pub returns-clause-empty : goal.returns-clause-empty
returns-clause-empty c = empty_orderly

pub returns-clause-loaded : goal.returns-clause-loaded
returns-clause-loaded c = databases_orderly
