-- What a write puts into a database, and when it may.
use Rattle.std.specs.Prelude.{◌≡◌, ℕ, ◌≤◌, [], Result, Ok, Err, ⊤}
use Rattle.par_base.specs.declared.fault.Fault.{Fault}
use Rattle.par_base.specs.declared.fault.Fault.TheVariants.{Refused, Memory}
use Rattle.par_base.specs.declared.refusal.IdsSpent.{IdsSpent}
use Rattle.row_store.specs.Rows.{Rows}
use Rattle.op_law.specs.Meaning.{Meaning}
use Rattle.op_law.specs.Calls.{IsSpent, first_refused}
use Rattle.row_changes.specs.Changed.{changed, changed_tables}
use Rattle.pair_changes.specs.Changed.{changed_pairs}
use Rattle.version_model.specs.Kept.{rows_at, auxes_at, pairs_at, numbers_in}
use Rattle.version_model.specs.Writes.{write}
use Rattle.db_state.specs.Fields.{IsDatabase, database_for, state_for}
use Rattle.db_state.specs.declared.parts.Parts.{Parts}
use Rattle.kept_changes.specs.Changes.{changes_at, sides_at, pair_changes_at}
use Rattle.write_plans.specs.declared.plans.Plan.{Plan}
use Rattle.write_plans.specs.declared.plans.RowWrite.{RowWrite}

-- the rows that the written table is to have
abbrev pub rows_written : {O : Type 0} → (O → Meaning) → Parts O → RowWrite → Rows
rows_written meaning d w = changed ((state_for meaning d).tables w.table) w.changes

-- each stored table, each auxiliary table and each memory gets its changes, and nothing else changes but the counter
pub record Puts {O : Type 0} (old : Parts O) (plan : Plan) (new : Parts O) : Type 0 where
  pub graph : new.graph ≡ old.graph
  pub layout : new.layout ≡ old.layout
  pub ids : new.ids ≡ plan.ids
  pub tables : numbers_in new.stored ≡ numbers_in old.stored
  pub auxes : numbers_in new.aux ≡ numbers_in old.aux
  pub memories : numbers_in new.memories ≡ numbers_in old.memories
  pub stored : (n : ℕ) → rows_at new.stored n ≡ changed (rows_at old.stored n) (changes_at plan.stored n)
  pub aux : (n : ℕ) → auxes_at new.aux n ≡ changed_tables (auxes_at old.aux n) (sides_at plan.auxes n)
  pub memory : (n : ℕ) → pairs_at new.memories n ≡ changed_pairs (pairs_at old.memories n) (pair_changes_at plan.memories n)

-- the same database: only the room of its tables and memories differs
abbrev pub IsSame : {O : Type 0} → Parts O → Parts O → Type 0
IsSame old new = Puts old (record { stored = []; auxes = []; memories = []; ids = old.ids; changed = []; carried = [] }) new

-- A WRITE, WHATEVER IS STORED: the database with the plan has the state after the model's write; it is refused exactly where the write would draw an identifier above the limit
abbrev pub Plans : {O : Type 0} → (O → Meaning) → Parts O → ℕ → ℕ → Rows → ℕ → Result Plan (Fault IdsSpent) → Type 0
Plans {O} meaning d w t rows next (Ok plan) =
    let end = write meaning d.graph.edges (state_for meaning d) w t rows next in
    (end.next ≤ first_refused d.ids) × ((new : Parts O) → Puts d plan new → IsDatabase meaning new × (database_for meaning new ≡ record (database_for meaning d) { state = end }))
Plans meaning d w t rows next (Err (Refused spent)) = IsSpent (write meaning d.graph.edges (state_for meaning d) w t rows next).next d.ids d.ids spent
Plans meaning d w t rows next (Err (Memory memory)) = ⊤
