use Rattle.std.proofs.Common.{inl, inr, sym, ◌∙◌}
use Rattle.db_state.proofs.LocalLemmas.{edge_there, local_there, there_local}
use Rattle.db_state.proofs.local.is_local_at.Goals as goal

pub returns-in-Some-clause-local : goal.returns-in-Some-clause-local
returns-in-Some-clause-local g c is e at (inl number) =
    local_there g.O.Operator.meaning c.args.graph.now.edges c.requires c.args.number c.in-Some.placed.now c.in-Some.ensures (sym c.is_local.ensures ∙ is) e at number
returns-in-Some-clause-local g c is e at (inr none) = absurd none

pub returns-in-Some-clause-all : goal.returns-in-Some-clause-all
returns-in-Some-clause-all g c all = c.is_local.ensures ∙ there_local g.O.Operator.meaning c.args.graph.now.edges c.args.number c.in-Some.placed.now c.in-Some.ensures all

pub returns-in-None-clause-local : goal.returns-in-None-clause-local
returns-in-None-clause-local g c is e at (inl number) = absurd (edge_there g.O.Operator.meaning c.args.graph.now.edges c.requires c.args.number c.in-None.ensures e at number)
returns-in-None-clause-local g c is e at (inr none) = absurd none
