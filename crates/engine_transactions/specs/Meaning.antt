-- What the writes of a transaction mean, one after the other.
use Rattle.std.specs.Prelude.{ℕ, ◌||◌, Bool, false, List, [], ◌∷◌, Ok, Err}
use Rattle.par_base.specs.declared.refusal.Refusal.TheVariants.{NotBuilt}
use Rattle.par_base.specs.Checked.{Checked, ◌then◌}
use Rattle.statements.specs.Views.{StatementView, statement_view}
use Rattle.statements.specs.declared.statement.Statement.{Statement}
use Rattle.session_tx.specs.Meaning.{Meaning, Ran, Standing as Executed}
use Rattle.engine_state.specs.declared.reply.Reply.{Reply}
use Rattle.engine_state.specs.declared.reply.Reply.TheVariants.{Inserted, Updated, Deleted}
use Rattle.engine_state.specs.declared.reply.WriteReply.{WriteReply}
use Rattle.engine_state.specs.declared.reply.WriteReply.TheVariants as write
use Rattle.engine_sessions.specs.Act.{written_in}
use Rattle.engine_sessions.specs.Standing.{Standing as SessionsStanding}
use Rattle.tx_history.specs.declared.table_read.TableRead.{TableRead}
use Rattle.engine_transactions.specs.Changed.{has_changed}
use Rattle.tx_history.specs.History.{last_change}
use Rattle.engine_transactions.specs.Standing.{Standing}

-- the reply to a write; no other statement is one
abbrev pub write_reply : Reply → Checked WriteReply
write_reply (Inserted ids) = Ok (write.Inserted ids)
write_reply (Updated count) = Ok (write.Updated count)
write_reply (Deleted count) = Ok (write.Deleted count)
write_reply _ = Err NotBuilt

-- A WRITE IN FULL, AS OUTSIDE A TRANSACTION, but that no access is counted; it changes what was read where it gives the table other rows
abbrev pub means : Meaning SessionsStanding StatementView TableRead WriteReply
means s statement =
    written_in s statement then λ answer.
    write_reply answer.0 then λ reply.
    Ok (record {
      done = reply;
      next = answer.1;
      changes = λ read. has_changed s.laid.database answer.1.laid.database read.table;
    })

-- the same of a statement as it lies in memory
abbrev pub means_kept : Meaning SessionsStanding Statement TableRead WriteReply
means_kept s statement = means s (statement_view statement)

-- the runs that led from here gave the table other rows, one of them at least
abbrev pub any_changed : SessionsStanding → List (Ran SessionsStanding TableRead WriteReply) → ℕ → Bool
any_changed s [] t = false
any_changed s (run ∷ runs) t = has_changed s.laid.database run.next.laid.database t || any_changed run.next runs t

-- where a commit begins
abbrev pub executing : Standing → Executed SessionsStanding TableRead
executing s = record { state = s.sessions; history = s.history.last; last = last_change s.history; unsettled = [] }
