use Rattle.op_law.specs.Calls.{tables_of}
use Rattle.op_fk_join.proofs.AdmissionLemmas.{join_told_on}
use Rattle.op_fk_join.proofs.join.JoinFkOperator.admit_target.Goals as goal

pub returns : goal.returns
returns g c = join_told_on c.args.self.now.first c.args.self.now.second c.args.self.now.place c.args.source.now (tables_of c.args.aux.now) c.args.memory.now.entries c.in_ok-target.target c.in_ok-target.ensures
