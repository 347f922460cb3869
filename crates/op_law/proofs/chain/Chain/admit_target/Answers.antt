use Rattle.std.proofs.Common.{subst, Option}
use Rattle.op_law.specs.Tables.{Tables}
use Rattle.op_law.specs.Calls.{tables_of, Admits}
use Rattle.op_law.proofs.ChainLemmas.{none_admitted}
use Rattle.op_law.proofs.chain.Chain.admit_target.Goals as goal

pub returns-in-None : goal.returns-in-None
returns-in-None g c =
    let a = g.A.Operator.meaning c.args.self.now.first in
    let b = g.B.Operator.meaning c.args.self.now.second in
    let first_aux = tables_of c.args.first_aux.now in
    let second_aux = tables_of c.args.second_aux.now in
    let admitted = subst (λ (side : Option Tables). Admits a c.args.source.now first_aux c.args.first_memory.now.entries side) c.in-Some.is c.in_ok-middle.ensures in
    let refused = subst (λ (side : Option Tables). Admits b c.in-Some.middle second_aux c.args.second_memory.now.entries side) c.in-None.is c.in_ok-target.ensures in
    none_admitted a b (g.met.A.Operator.laws c.args.self.now.first).0 c.args.source.now first_aux second_aux c.args.first_memory.now.entries c.args.second_memory.now.entries c.in-Some.middle c.requires.reads admitted refused
