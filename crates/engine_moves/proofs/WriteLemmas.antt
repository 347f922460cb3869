-- A refused write leaves what is pending, and the data with their layout.
use Rattle.std.proofs.Common.{◌≡◌, ℕ, List, Result, Ok, Err, ap, ◌∙◌}
use Rattle.std.specs.Prelude.{OnErr}
use Rattle.layout_rules.specs.declared.layout.Layout.{Layout}
use Rattle.op_any.specs.Operators.{AnyView}
use Rattle.db_state.specs.declared.parts.Parts.{Parts}
use Rattle.engine_core.specs.WriteUndo.{Undo}
use Rattle.engine_state.specs.AnyDatabase.{AnyDatabase}
use Rattle.engine_core.specs.Kept.{data_of, state_of}
use Rattle.engine_core.specs.Laid.{Laid}
use Rattle.engine_core.specs.Undo.{LeavesWrite}
use Rattle.engine_moves.specs.Moving.{Moving}

abbrev moving : Laid → List ℕ → Moving
moving laid pending = record { laid = laid; pending = pending }

pub moving_same : {X E : Type 0} (undo_of : X → Undo) (old new : Parts AnyView) (before after : List ℕ) (r : Result X E) → LeavesWrite undo_of old new r → OnErr r (data_of new ≡ data_of old) → after ≡ before → OnErr r (moving (state_of new) after ≡ moving (state_of old) before)
moving_same undo_of old new before after (Ok x) leaves same pending = tt
moving_same undo_of old new before after (Err e) leaves same pending =
    ap (λ (d : AnyDatabase). moving (record { database = d; layout = new.layout.operators }) after) same
    ∙ ap (λ (l : Layout). moving (record { database = data_of old; layout = l.operators }) after) leaves.0.layout
    ∙ ap (λ (p : List ℕ). moving (state_of old) p) pending
