-- What a write and what takes it back leave of the graph, the layout and the counter.
use Rattle.std.proofs.Common.{◌≡◌, Result, Ok, Err, sym, ◌∙◌}
use Rattle.op_any.specs.Operators.{AnyView, any_meaning}
use Rattle.db_state.specs.declared.parts.Parts.{Parts}
use Rattle.write_plans.specs.Undo.{IsRevertible, Restores}
use Rattle.write_plans.specs.declared.undo.Undo.{Undo}
use Rattle.engine_core.specs.Undo.{LeavesWrite}

-- a write leaves the graph and the layout, also where it is refused
pub written_graph : {X E : Type 0} (undo_of : X → Undo) (old new : Parts AnyView) (r : Result X E) → LeavesWrite undo_of old new r → new.graph ≡ old.graph
written_graph undo_of old new (Ok x) leaves = leaves.0.undoes.leads.graph
written_graph undo_of old new (Err e) leaves = leaves.0.graph

pub written_layout : {X E : Type 0} (undo_of : X → Undo) (old new : Parts AnyView) (r : Result X E) → LeavesWrite undo_of old new r → new.layout ≡ old.layout
written_layout undo_of old new (Ok x) leaves = leaves.0.undoes.leads.layout
written_layout undo_of old new (Err e) leaves = leaves.0.layout

-- so does taking it back, and the counter is the one that was kept
module _ (now again : Parts AnyView) (undo : Undo) (some : IsRevertible any_meaning now undo) (restores : Restores any_meaning now undo again) where
  pub again_graph : again.graph ≡ now.graph
  again_graph = (restores some.0 some.1).same.graph ∙ sym some.1.leads.graph

  pub again_layout : again.layout ≡ now.layout
  again_layout = (restores some.0 some.1).same.layout ∙ sym some.1.leads.layout
