use Rattle.transaction_laws.proofs.MeanLemmas.{writes_mean}
use Rattle.transaction_laws.proofs.laws.writes_mean_as_outside.Goals as goal

pub returns : goal.returns
returns c = writes_mean
