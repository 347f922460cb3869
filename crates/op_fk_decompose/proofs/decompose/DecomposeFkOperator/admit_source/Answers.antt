use Rattle.op_law.specs.Calls.{tables_of}
use Rattle.op_fk_decompose.proofs.AdmissionLemmas.{told_back}
use Rattle.op_fk_decompose.proofs.decompose.DecomposeFkOperator.admit_source.Goals as goal

pub returns : goal.returns
returns g c = told_back c.args.self.now.first c.args.self.now.second c.args.self.now.place c.args.target.now (tables_of c.args.aux.now) c.args.memory.now.entries c.in_ok-source.source c.in_ok-source.ensures
