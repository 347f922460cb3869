-- What the calls answer and leave.
use Rattle.std.specs.Prelude.{◌≡◌, ℕ, None, List, Result, Ok, Err, ⊤}
use Rattle.std.specs.Option.{IsSome}
use Rattle.par_base.specs.declared.fault.Fault.{Fault}
use Rattle.par_base.specs.declared.fault.Fault.TheVariants.{Refused, Memory}
use Rattle.par_base.specs.declared.limits.Target.{Target}
use Rattle.par_base.specs.declared.refusal.Refusal.{Refusal}
use Rattle.par_base.specs.declared.refusal.Refusal.TheVariants.{UnknownVersion}
use Rattle.version_graph.specs.Dropped.{dropped}
use Rattle.version_graph.specs.Edges.{set_named}
use Rattle.op_law.specs.Meaning.{Meaning}
use Rattle.layout_rules.specs.Changes.{dropped_layout}
use Rattle.layout_rules.specs.Closed.{closing}
use Rattle.layout_rules.specs.Closing.{Closes}
use Rattle.version_model.specs.Databases.{dropped_database}
use Rattle.storage_law.specs.Changes.{GoFromSources}
use Rattle.db_state.specs.Fields.{database_for}
use Rattle.db_state.specs.declared.parts.Parts.{Parts}
use Rattle.migration.specs.declared.moved.Moved.{Moved}
use Rattle.migration.specs.Sides.{flip_count}
use Rattle.migration.specs.Moved.{Leads}

-- a move to the layout that stores the named tables, or the reason why there is none
abbrev pub PreparesMove : {O : Type 0} → (O → Meaning) → Parts O → List Target → Result Moved (Fault Refusal) → Type 0
PreparesMove meaning old named (Ok moved) =
    Closes old.graph old.layout.operators named (Ok moved.layout) × Leads meaning old moved × (moved.flips ≡ flip_count old.graph.edges old.layout.operators moved.layout.operators)
PreparesMove meaning old named (Err (Refused r)) = Closes old.graph old.layout.operators named (Err (Refused r))
PreparesMove meaning old named (Err (Memory memory)) = ⊤

-- the layout, or the refusal, is the one that is computed
abbrev pub ComputesMove : {O : Type 0} → Parts O → List Target → Result Moved (Fault Refusal) → Type 0
ComputesMove old named (Ok moved) = closing old.graph old.layout.operators named ≡ Ok moved.layout.operators
ComputesMove old named (Err (Refused r)) = closing old.graph old.layout.operators named ≡ Err r
ComputesMove old named (Err (Memory memory)) = ⊤

-- a move that brings the operators that go to their source sides, and leaves those that stay; or there is no such version
abbrev pub PreparesDrop : {O : Type 0} → (O → Meaning) → Parts O → List ℕ → Result Moved (Fault Refusal) → Type 0
PreparesDrop meaning old name (Ok moved) =
    IsSome (set_named old.graph.versions name) × Leads meaning old moved × GoFromSources old.graph.edges (dropped old.graph name).edges moved.layout.operators
    × (dropped_layout old.graph name moved.layout.operators ≡ dropped_layout old.graph name old.layout.operators)
PreparesDrop meaning old name (Err (Refused r)) = (set_named old.graph.versions name ≡ None) × (r ≡ UnknownVersion name)
PreparesDrop meaning old name (Err (Memory memory)) = ⊤

-- the version was dropped, or there is none of this name; then nothing changes
abbrev pub Drops : {O : Type 0} → (O → Meaning) → Parts O → List ℕ → Result (Unit {0}) (Fault Refusal) → Parts O → Type 0
Drops meaning old name (Ok done) new =
    IsSome (set_named old.graph.versions name) × (database_for meaning new ≡ dropped_database (database_for meaning old) name) × (new.layout.operators ≡ dropped_layout old.graph name old.layout.operators)
Drops meaning old name (Err (Refused r)) new = (set_named old.graph.versions name ≡ None) × (r ≡ UnknownVersion name) × (new ≡ old)
Drops meaning old name (Err (Memory memory)) new = new ≡ old
