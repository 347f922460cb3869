use Rattle.std.proofs.Common.{arith}
use Rattle.version_model.proofs.EvolveLaws.{evolution_keeps}
use Rattle.version_model.proofs.laws.evolutions_keep_the_state.Goals as goal

pub returns : goal.returns
returns g c es parent operator table edges s all sound built = evolution_keeps g.O.Operator.meaning g.met.O.Operator.laws es parent operator table edges s s.next (record { all = all; sound = sound; built = built; drawn = omega arith })
