use Rattle.std.proofs.Common.{sym, subst}
use Rattle.op_law.specs.Tables.{Tables}
use Rattle.op_law.specs.Meaning.{flip}
use Rattle.op_law.specs.Calls.{tables_of}
use Rattle.op_law.specs.Premises.{SomeStored}
use Rattle.op_law.proofs.ChainLemmas.{second_stored}
use Rattle.op_law.proofs.chain.Chain.read_source.Goals as goal

pub read_source-requires-2 : goal.read_source-requires-2
read_source-requires-2 g c =
    let a = flip (g.B.Operator.meaning c.args.self.now.second) in
    let b = flip (g.A.Operator.meaning c.args.self.now.first) in
    let stored = second_stored a b (g.met.B.Operator.laws c.args.self.now.second).1 c.args.target.now (tables_of c.args.second_aux.now) (tables_of c.args.first_aux.now) c.args.second_memory.now.entries c.args.first_memory.now.entries c.requires in
    subst (λ (side : Tables). SomeStored b side (tables_of c.args.first_aux.now) c.args.first_memory.now.entries) (sym c.in_ok-middle.ensures.answer) stored
