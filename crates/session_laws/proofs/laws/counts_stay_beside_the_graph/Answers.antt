use Rattle.session_laws.proofs.CountLemmas.{counts_stay}
use Rattle.session_laws.proofs.laws.counts_stay_beside_the_graph.Goals as goal

pub returns : goal.returns
returns c = counts_stay
