-- The graph and the layout stay, so what is pending still leads to a valid layout.
use Rattle.std.proofs.Common.{◌≡◌, refl, sym, subst}
use Rattle.std.specs.Prelude.{OnErr}
use Rattle.version_graph.specs.Edges.{Drawn}
use Rattle.layout_rules.specs.declared.layout.Layout.{Layout}
use Rattle.op_any.specs.Operators.{AnyView}
use Rattle.migration.specs.Pending.{IsPending}
use Rattle.engine_core.specs.declared.written.Written.{Written}
use Rattle.engine_core.proofs.UndoLaws.{written_graph, written_layout}
use Rattle.engine_moves.specs.Moving.{KeptMove, moving_of}
use Rattle.engine_moves.proofs.WriteLemmas.{moving_same}
use Rattle.engine_moves.proofs.mover.Mover.write_undoable.Goals as goal

pub invariant_of-self : goal.invariant_of-self
invariant_of-self g c =
    let k = c.self.inside.engine in
    let n = c.write_undoable.new.self in
    let pending = c.self.inside.pending in
    let graph = written_graph (λ (w : Written). w.undo) k n c.write_undoable.result c.write_undoable.ensures.leaves in
    let layout = written_layout (λ (w : Written). w.undo) k n c.write_undoable.result c.write_undoable.ensures.leaves in
    subst (λ (l : Layout). IsPending n.graph.edges l.operators pending) (sym layout)
    (subst (λ (d : Drawn AnyView). IsPending d.edges k.layout.operators pending) (sym graph) c.self.invariant)

pub returns-clause-same : goal.returns-clause-same
returns-clause-same g c =
    let k = c.self.inside.engine in
    let n = c.write_undoable.new.self in
    let all = moving_same (λ (w : Written). w.undo) k n c.self.inside.pending c.self.inside.pending c.write_undoable.result c.write_undoable.ensures.leaves c.write_undoable.ensures.same refl in
    subst (λ (x : KeptMove). OnErr c.write_undoable.result (moving_of (record { database = n; pending = c.self.inside.pending }) ≡ moving_of x)) c.self.view_is all
