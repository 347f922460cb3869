-- Which table versions a write gives other rows, and by which changes: its plan tells both.
use Rattle.std.specs.Prelude.{◌≡◌, ℕ, Bool, true, false, not, List, filter, Option, Some, None}
use Rattle.std.specs.List.{list_any}
use Rattle.par_base.specs.declared.value.Value.{Value}
use Rattle.par_base.specs.SameRows.{same_row}
use Rattle.row_store.specs.Rows.{Rows}
use Rattle.row_store.specs.Changes.{AreOld, ChangesRise}
use Rattle.row_store.specs.declared.change.Change.{Change}
use Rattle.version_graph.specs.Edges.{is_in}
use Rattle.version_graph.specs.Sets.{In}
use Rattle.op_law.specs.Meaning.{Meaning}
use Rattle.row_changes.specs.Changed.{changed}
use Rattle.changes_walk.specs.Changing.{latest_changes}
use Rattle.version_model.specs.States.{State}
use Rattle.version_model.specs.Writes.{write}
use Rattle.version_model.specs.declared.numbered.Numbered.{Numbered}
use Rattle.db_state.specs.Fields.{state_for}
use Rattle.db_state.specs.declared.parts.Parts.{Parts}
use Rattle.write_plans.specs.Plans.{rows_written}
use Rattle.write_plans.specs.declared.plans.Plan.{Plan}
use Rattle.write_plans.specs.declared.plans.RowWrite.{RowWrite}

-- the model's state after the write
abbrev pub state_after : {O : Type 0} → (O → Meaning) → Parts O → RowWrite → State
state_after meaning d w = write meaning d.graph.edges (state_for meaning d) w.set w.table (rows_written meaning d w) w.ids.next

-- the test says whether a table gets other rows
abbrev pub TellsApart : Rows → Rows → Bool → Type 0
TellsApart before now true = now ≡ before → ⊥
TellsApart before now false = now ≡ before

-- THE TABLES THAT A WRITE CHANGES: the plan lists a table version exactly where the model's write gives it other rows
abbrev pub TellsChanged : {O : Type 0} → (O → Meaning) → Parts O → RowWrite → Plan → Type 0
TellsChanged meaning d w plan = (t : ℕ) → TellsApart ((state_for meaning d).tables t) ((state_after meaning d w).tables t) (is_in t plan.changed)

-- changes that rise and have the rows before as the old ones lead to the rows now
pub record ChangesLead (before now : Rows) (changes : List Change) : Type 0 where
  pub rise : ChangesRise 0 changes
  pub old : AreOld before changes
  pub new : changed before changes ≡ now

-- of each of these tables the last changes that were carried to it do
abbrev pub CarriedLead : (ℕ → Rows) → (ℕ → Rows) → List ℕ → List (Numbered (List Change)) → Type 0
CarriedLead before now tables carried = (t : ℕ) → In t tables → ChangesLead (before t) (now t) (latest_changes carried t)

-- WHAT CHANGES IN THEM: of each table version that the plan lists, what was carried to it leads from the rows before the model's write to those after it
abbrev pub TellsCarried : {O : Type 0} → (O → Meaning) → Parts O → RowWrite → Plan → Type 0
TellsCarried meaning d w plan = CarriedLead (state_for meaning d).tables (state_after meaning d w).tables plan.changed plan.carried

-- ---- how they are found

-- both are the same row, or none
abbrev pub same_cell : Option (List Value) → Option (List Value) → Bool
same_cell None None = true
same_cell (Some a) (Some b) = same_row a b
same_cell None (Some b) = false
same_cell (Some a) None = false

-- the change leaves another row
abbrev pub is_change : Change → Bool
is_change c = not (same_cell c.old c.new)

-- one of the changes does
abbrev pub has_change : List Change → Bool
has_change changes = list_any (λ (c : Change). is_change c) changes

-- those of these tables of which one of the last changes does
abbrev pub changed_of : List (Numbered (List Change)) → List ℕ → List ℕ
changed_of made tables = filter (λ t. has_change (latest_changes made t)) tables
