use Rattle.std.proofs.Common.{ℕ, List, sym, ◌∙◌, subst}
use Rattle.std.proofs.lemmas.Bool.{false≢true}
use Rattle.version_graph.specs.Edges.{Drawn}
use Rattle.db_state.specs.Fields.{state_for}
use Rattle.db_state.specs.Parts.{AreLocalAt}
use Rattle.kept_keys.proofs.KeptLaws.{same_right}
use Rattle.write_propagation.proofs.planning.plan_tree.Goals as goal

pub plan_local-requires-clause-local : goal.plan_local-requires-clause-local
plan_local-requires-clause-local g c =
    let m = g.O.Operator.meaning in
    subst (λ (x : Drawn _). AreLocalAt m x.edges c.args.tree.now.operators) c.graph.ensures.graph
    (subst (λ (ns : List ℕ). AreLocalAt m c.graph.result.now.edges ns) c.as_slice.ensures (c.are_local.ensures.local c.if-are_local.true))

pub returns-then-are_local-clause-right : goal.returns-then-are_local-clause-right
returns-then-are_local-clause-right g c =
    same_right (state_for g.O.Operator.meaning c.args.db.now).tables c.args.keys.now.items c.plan_local.new.keys.items c.requires.right c.plan_local.ensures.kept

pub returns-else-are_local-clause-steps : goal.returns-else-are_local-clause-steps
returns-else-are_local-clause-steps g c local =
    let m = g.O.Operator.meaning in
    let here = subst (λ (ns : List ℕ). AreLocalAt m c.graph.result.now.edges ns) (sym c.as_slice.ensures) (subst (λ (x : Drawn _). AreLocalAt m x.edges c.args.tree.now.operators) (sym c.graph.ensures.graph) local) in
    absurd (false≢true (sym c.if-are_local.false ∙ c.are_local.ensures.all here))
