use Rattle.storage_law.proofs.FlipLemmas.{flip_stands}
use Rattle.storage_law.proofs.laws.flips_leave_the_state.Goals as goal

pub returns : goal.returns
returns g c reads es edges storage valid e at new turns valid_new s st = flip_stands g.O.Operator.meaning g.met.O.Operator.laws reads es edges storage valid e at new turns valid_new s st
