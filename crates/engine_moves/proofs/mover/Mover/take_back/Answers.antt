-- The graph and the layout stay, so what is pending still leads to a valid layout.
use Rattle.std.proofs.Common.{sym, subst}
use Rattle.version_graph.specs.Edges.{Drawn}
use Rattle.layout_rules.specs.declared.layout.Layout.{Layout}
use Rattle.op_any.specs.Operators.{AnyView, any_meaning}
use Rattle.db_state.specs.declared.parts.Parts.{Parts}
use Rattle.migration.specs.Pending.{IsPending}
use Rattle.engine_core.specs.WritesUndone.{IsRevertible}
use Rattle.engine_core.proofs.UndoLaws.{again_graph, again_layout}
use Rattle.engine_moves.proofs.mover.Mover.take_back.Goals as goal

pub invariant_of-self : goal.invariant_of-self
invariant_of-self c =
    let k = c.self.inside.engine in
    let n = c.take_back.new.self in
    let pending = c.self.inside.pending in
    let some = subst (λ (x : Parts AnyView). IsRevertible any_meaning x c.args.undo) (sym (λ i. (c.self.view_is i).database)) c.requires.revertible in
    let graph = again_graph k n c.args.undo some c.take_back.ensures.restores in
    let layout = again_layout k n c.args.undo some c.take_back.ensures.restores in
    subst (λ (l : Layout). IsPending n.graph.edges l.operators pending) (sym layout)
    (subst (λ (d : Drawn AnyView). IsPending d.edges k.layout.operators pending) (sym graph) c.self.invariant)
