use Rattle.inverda_run.proofs.SerialLawLemmas.{runs_serial}
use Rattle.inverda_run.proofs.run_laws.runs_are_serial.Goals as goal

pub returns : goal.returns
returns c = runs_serial c.transactions_are_serial.ensures.serial c.transactions_are_serial.ensures.empty c.transactions_are_serial.ensures.loaded c.watches_are_beside.ensures.stands c.watches_are_beside.ensures.replies
