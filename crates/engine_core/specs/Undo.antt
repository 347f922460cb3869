-- What a write leaves, with which it can be taken back.
use Rattle.std.specs.Prelude.{ℕ, List, Result, Ok, Err}
use Rattle.par_base.specs.declared.fault.Fault.{Fault}
use Rattle.par_base.specs.declared.refusal.Refusal.{Refusal}
use Rattle.par_base.specs.Checked.{Checked, Gives, ◌then◌}
use Rattle.statements.specs.Views.{StatementView}
use Rattle.version_graph.specs.Edges.{is_in}
use Rattle.op_any.specs.Operators.{AnyView, any_meaning}
use Rattle.db_state.specs.declared.parts.Parts.{Parts}
use Rattle.write_plans.specs.Capacity.{HoldsAtLeast}
use Rattle.write_plans.specs.Plans.{IsSame}
use Rattle.write_plans.specs.Told.{CarriedLead, TellsApart}
use Rattle.write_plans.specs.Undo.{Undoes}
use Rattle.write_plans.specs.declared.undo.Undo.{Undo}
use Rattle.engine_state.specs.AnyDatabase.{AnyDatabase}
use Rattle.engine_state.specs.declared.reply.Reply.{Reply}
use Rattle.engine_statements.specs.Statements.{wrote}
use Rattle.engine_core.specs.Act.{planned_write}
use Rattle.engine_core.specs.Kept.{data_of}
use Rattle.engine_core.specs.declared.written.Written.{Written}

-- a write as outside a transaction: what it answers and leaves of the data
abbrev pub acted_write : AnyDatabase → StatementView → Checked (Reply × AnyDatabase)
acted_write s statement = planned_write s statement then λ p. wrote s p

-- these are the tables that got other rows
abbrev pub TellsTables : AnyDatabase → AnyDatabase → List ℕ → Type 0
TellsTables old new changed = (t : ℕ) → TellsApart (old.state.tables t) (new.state.tables t) (is_in t changed)

-- what is left takes the write back, and tells the tables that got other rows, and by which changes
pub record LeavesUndo (old new : Parts AnyView) (undo : Undo) : Type 0 where
  pub undoes : Undoes any_meaning old new undo
  pub changed : TellsTables (data_of old) (data_of new) undo.changed
  pub carried : CarriedLead (data_of old).state.tables (data_of new).state.tables undo.changed undo.carried

-- after an error nothing has changed but what can be held without memory, which grows at most
abbrev pub LeavesWrite : {X E : Type 0} → (X → Undo) → Parts AnyView → Parts AnyView → Result X E → Type 0
LeavesWrite undo_of old new (Ok written) = LeavesUndo old new (undo_of written) × HoldsAtLeast old new
LeavesWrite undo_of old new (Err fault) = IsSame old new × HoldsAtLeast old new

-- whether a call was carried out, whatever it gave
abbrev pub done_of : {X E : Type 0} → Result X E → Result (Unit {0}) E
done_of (Ok x) = Ok tt
done_of (Err fault) = Err fault

-- the call answers the write and leaves that, unless memory ran out
abbrev pub AnswersWrite : {S : Type 0} → Checked (Reply × S) → Result Written (Fault Refusal) → S → Type 0
AnswersWrite model result next = Gives (λ (w : Written). (w.reply, next)) result model
