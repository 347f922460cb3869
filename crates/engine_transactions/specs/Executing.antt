-- What the engine shows as an executor of writes.
use Rattle.std.specs.Prelude.{◌≡◌, ℕ, ◌≤◌, ◌==◌, Bool, not, List, [], ◌∷◌, length, if◌then◌else◌}
use Rattle.std.specs.List.{list_any}
use mathlib.Core.List.{reverse}
use Rattle.version_graph.specs.Edges.{is_in}
use Rattle.version_graph.specs.Sets.{Each, Within}
use Rattle.op_any.specs.BuiltOn.{AreBuiltOn}
use Rattle.op_any.specs.Operators.{AnyView, any_meaning}
use Rattle.version_model.specs.Kept.{numbers_in}
use Rattle.db_state.specs.declared.parts.Parts.{Parts}
use Rattle.engine_sessions.specs.Capacity.{HoldsAtLeast}
use Rattle.engine_sessions.specs.WritesUndone.{Undoes}
use Rattle.engine_sessions.specs.WriteUndo.{Undo}
use Rattle.session_tx.specs.Calls.{last_number, next_number}
use Rattle.session_tx.specs.Meaning.{Standing as Executed, Unsettled}
use Rattle.engine_sessions.specs.EngineCoreKept.{state_of}
use Rattle.engine_sessions.specs.Standing.{Standing as SessionsStanding, kept_in, standing_of}
use Rattle.tx_history.specs.History.{dropped_in, history_of, last_change, number_in}
use Rattle.engine_transactions.specs.Leads.{Leads}
use Rattle.engine_transactions.specs.declared.executing.Executing.{Executing}
use Rattle.tx_history.specs.declared.history.ChangeNumbers.{ChangeNumbers}
use Rattle.tx_history.specs.declared.table_read.TableRead.{TableRead}

-- a run that isn't settled: what is kept of it leads from the database now to the one before it, which stood there, and tells the tables that got other rows, and by which changes
pub record IsRunTo (before now : Parts AnyView) (undo : Undo) (s : SessionsStanding) (run : Unsettled SessionsStanding TableRead) : Type 0 where
  pub undoes : Undoes any_meaning before now undo
  pub holds : HoldsAtLeast before now
  pub built : AreBuiltOn undo.ids.next now.graph.edges
  pub stood : run.before ≡ record s { laid = state_of before }
  pub changes : (read : TableRead) → run.changes read ≡ is_in read.table undo.changed
  pub leads : Leads run.before.laid.database s.laid.database undo

-- the runs that aren't settled, the newest first, lead back one after the other
abbrev pub RunsTo : Parts AnyView → List Undo → SessionsStanding → List (Unsettled SessionsStanding TableRead) → Type 0
RunsTo now [] s [] = Unit {0}
RunsTo now [] s (r ∷ rs) = ⊥
RunsTo now (u ∷ us) s [] = ⊥
RunsTo now (u ∷ us) s (r ∷ rs) = (before : Parts AnyView) × (IsRunTo before now u s r × RunsTo before us r.before rs)

-- a number is kept for each table that a run gave other rows, so that settling takes no memory
abbrev pub HaveNumbers : List ℕ → List Undo → Type 0
HaveNumbers tables undos = Each (λ (u : Undo). Within u.changed tables) undos

-- WHAT THE ENGINE SHOWS
pub record Shows (it : Executing) (s : Executed SessionsStanding TableRead) : Type 0 where
  pub state : s.state ≡ standing_of it.sessions
  pub history : s.history ≡ it.numbers.last
  pub last : (read : TableRead) → s.last read ≡ last_change (history_of it.numbers) read
  pub runs : RunsTo (kept_in it.sessions) (reverse it.unsettled.items) s.state s.unsettled
  pub numbers : HaveNumbers (numbers_in it.numbers.changed) (reverse it.unsettled.items)
  -- no name was dropped later than the last number
  pub dropped : (name : List ℕ) → dropped_in it.numbers.dropped name ≤ it.numbers.last
  pub within : it.numbers.last ≤ last_number

-- ---- WHAT INNER CALLS DO

-- one of the runs gave the table other rows
abbrev pub is_changed_by : List Undo → ℕ → Bool
is_changed_by undos t = list_any (λ (u : Undo). is_in t u.changed) undos

-- one of the runs gave a table other rows
abbrev pub has_changes : List Undo → Bool
has_changes undos = list_any (λ (u : Undo). not (length u.changed == 0)) undos

-- the runs are settled: where they gave a table other rows the last number rises, and each such table has it
pub record HasSettled (old : ChangeNumbers) (undos : List Undo) (new : ChangeNumbers) : Type 0 where
  pub last : new.last ≡ (if has_changes undos then next_number old.last else old.last)
  pub changed : (t : ℕ) → number_in new.changed t ≡ (if is_changed_by undos t then new.last else number_in old.changed t)
  pub dropped : new.dropped ≡ old.dropped
