-- A write of the data, beside what sessions keep.
use Rattle.std.proofs.Common.{◌≡◌, ℕ, List, Result, Ok, Err, sym, ap, ◌∙◌}
use Rattle.std.specs.Prelude.{OnErr}
use Rattle.par_base.specs.declared.fault.Fault.{Fault}
use Rattle.par_base.specs.declared.fault.Fault.TheVariants.{Memory, Refused}
use Rattle.par_base.specs.declared.refusal.Refusal.{Refusal}
use Rattle.par_base.specs.Checked.{Checked, ◌then◌}
use Rattle.statements.specs.Views.{StatementView}
use Rattle.op_any.specs.Operators.{AnyView}
use Rattle.db_state.specs.declared.parts.Parts.{Parts}
use Rattle.engine_state.specs.AnyDatabase.{AnyDatabase}
use Rattle.engine_state.specs.declared.reply.Reply.{Reply}
use Rattle.engine_moves.specs.EngineCoreKept.{data_of, state_of}
use Rattle.engine_moves.specs.EngineCoreUndo.{AnswersWrite, acted_write}
use Rattle.engine_moves.specs.Written.{Written}
use Rattle.engine_sessions.specs.Act.{written_in}
use Rattle.engine_sessions.specs.Standing.{Standing}

-- what holds after an error
pub on_err : {X E P Q : Type 0} (r : Result X E) → (P → Q) → OnErr r P → OnErr r Q
on_err (Ok x) f h = tt
on_err (Err e) f h = f h

module _ (s : Standing) (x : StatementView) (new : Parts AnyView) (layout : new.layout.operators ≡ s.laid.layout) where
  abbrev next : Standing
  next = record s { laid = state_of new }

  pub written_beside : (r : Result Written (Fault Refusal)) → AnswersWrite (acted_write s.laid.database x) r (data_of new) → AnswersWrite (written_in s x) r next
  written_beside (Ok written) answers =
      ap (λ (m : Checked (Reply × AnyDatabase)). m then λ answer. Ok (answer.0, record s { laid = record s.laid { database = answer.1 } })) answers
      ∙ ap (λ (l : List ℕ). Ok (written.reply, record s { laid = record { database = data_of new; layout = l } })) (sym layout)
  written_beside (Err (Refused refusal)) answers = ap (λ (m : Checked (Reply × AnyDatabase)). m then λ answer. Ok (answer.0, record s { laid = record s.laid { database = answer.1 } })) answers
  written_beside (Err (Memory memory)) answers = tt
