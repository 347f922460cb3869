use Rattle.op_law.specs.Meaning.{flip}
use Rattle.op_law.proofs.ChainLemmas.{chain_laws}
use Rattle.op_law.proofs.laws.chains_keep_the_laws.Goals as goal

pub returns-clause-forward : goal.returns-clause-forward
returns-clause-forward g c first second = chain_laws (g.A.Operator.meaning first) (g.B.Operator.meaning second) (g.met.A.Operator.laws first).0 (g.met.B.Operator.laws second).0

pub returns-clause-backward : goal.returns-clause-backward
returns-clause-backward g c first second = chain_laws (flip (g.B.Operator.meaning second)) (flip (g.A.Operator.meaning first)) (g.met.B.Operator.laws second).1 (g.met.A.Operator.laws first).1
