use Rattle.db_state.proofs.PartLaws.{sees_local}
use Rattle.db_state.proofs.local.sight_over.Goals as goal

pub returns-then-are_local-clause-may : goal.returns-then-are_local-clause-may
returns-then-are_local-clause-may g c s =
    sees_local g.O.Operator.meaning g.met.O.Operator.laws c.args.graph.now.edges c.args.operators.now c.args.sight c.requires (c.are_local.ensures.local c.if-are_local.true) s
