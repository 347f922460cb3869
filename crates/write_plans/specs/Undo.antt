-- When a write can be taken back, and what that restores.
use Rattle.std.specs.Prelude.{◌≡◌}
use Rattle.op_law.specs.Meaning.{Meaning}
use Rattle.db_state.specs.Fields.{IsDatabase, database_for}
use Rattle.db_state.specs.declared.parts.Parts.{Parts}
use Rattle.kept_changes.specs.Undo.{AuxesLeadBack, MemoriesLeadBack, TablesLeadBack}
use Rattle.write_plans.specs.Capacity.{HoldsAtLeast}
use Rattle.write_plans.specs.Plans.{IsSame}
use Rattle.write_plans.specs.declared.undo.Undo.{Undo}

-- what takes a write back leads from the database after it to the one before: its changes lead the stored tables, the auxiliary tables and the memories back, the counter is the one before, and nothing else differs
pub record LeadsTo {O : Type 0} (before now : Parts O) (undo : Undo) : Type 0 where
  pub graph : now.graph ≡ before.graph
  pub layout : now.layout ≡ before.layout
  pub ids : undo.ids ≡ before.ids
  pub stored : TablesLeadBack before.stored now.stored undo.stored
  pub auxes : AuxesLeadBack before.aux now.aux undo.auxes
  pub memories : MemoriesLeadBack before.memories now.memories undo.memories

-- THE OLD DATABASE OF A WRITE: it is in canonical storage, and what takes the write back leads to it
pub record Undoes {O : Type 0} (meaning : O → Meaning) (before now : Parts O) (undo : Undo) : Type 0 where
  pub kept : IsDatabase meaning before
  pub leads : LeadsTo before now undo

-- a write can be taken back where there is such a database
abbrev pub IsRevertible : {O : Type 0} → (O → Meaning) → Parts O → Undo → Type 0
IsRevertible {O} meaning now undo = (before : Parts O) × Undoes meaning before now undo

-- the old database is there again, and stands for the same state
pub record IsAgain {O : Type 0} (meaning : O → Meaning) (before again : Parts O) : Type 0 where
  pub same : IsSame before again
  pub database : database_for meaning again ≡ database_for meaning before

-- whatever the old database was, it is there again
abbrev pub Restores : {O : Type 0} → (O → Meaning) → Parts O → Undo → Parts O → Type 0
Restores {O} meaning now undo again = (before : Parts O) → Undoes meaning before now undo → IsAgain meaning before again

-- a write can still be taken back once the database after it is there again and holds at least as much
abbrev pub StaysUndoable : {O : Type 0} → (O → Meaning) → Type 0
StaysUndoable {O} meaning = (before now again : Parts O) (undo : Undo) → Undoes meaning before now undo → IsSame now again → HoldsAtLeast now again → Undoes meaning before again undo
