-- Where what is kept stands, and what inner calls do.
use Rattle.std.specs.Prelude.{◌≡◌, ◌≤◌, List, []}
use Rattle.statements.specs.Views.{StatementView}
use Rattle.session_tx.specs.Calls.{last_number}
use Rattle.session_tx.specs.Meaning.{Standing as Executed}
use Rattle.engine_sessions.specs.Spoken.{TextsCome}
use Rattle.engine_state.specs.declared.reply.Reply.{Reply}
use Rattle.engine_state.specs.declared.reply.Reply.TheVariants as reply
use Rattle.engine_state.specs.declared.reply.WriteReply.{WriteReply}
use Rattle.engine_state.specs.declared.reply.WriteReply.TheVariants as write
use Rattle.engine_sessions.specs.Standing.{Standing as SessionsStanding, kept_in, standing_of as standing_beside}
use Rattle.tx_history.specs.History.{history_of, last_change, DropsArePast}
use Rattle.tx_history.specs.Opens.{opens_view}
use Rattle.tx_history.specs.Views.{OpenView}
use Rattle.engine_transactions.specs.Standing.{Standing}
use Rattle.engine_transactions.specs.declared.executing.Executing.{Executing}
use Rattle.engine_transactions.specs.declared.kept.Kept.{Kept}
use Rattle.tx_history.specs.declared.table_read.TableRead.{TableRead}

-- ---- WHERE WHAT IS KEPT STANDS

-- beside these open transactions
abbrev pub standing_in : Executing → List OpenView → Standing
standing_in at opens = record { sessions = standing_beside at.sessions; history = history_of at.numbers; opens = opens }

abbrev pub standing_of : Kept → Standing
standing_of kept = standing_in kept.executing (opens_view kept.opens.items)

-- between two statements no write is unsettled
pub record IsIdle (at : Executing) : Type 0 where
  pub settled : at.unsettled.items ≡ []
  pub drops : DropsArePast at.numbers
  pub within : at.numbers.last ≤ last_number

-- ---- what holds of every statement

-- the same is kept
abbrev pub IsSame : Executing → Executing → Type 0
IsSame old new = (opens : List OpenView) → standing_in new opens ≡ standing_in old opens

-- operators come from the statement, and the greatest identifier stays
pub record Keeps (x : StatementView) (old new : Executing) : Type 0 where
  pub texts : TextsCome x (kept_in old.sessions).graph.edges (kept_in new.sessions).graph.edges
  pub limit : (kept_in new.sessions).ids.limit ≡ (kept_in old.sessions).ids.limit

-- ---- writes

-- the reply to a write
abbrev pub reply_of : WriteReply → Reply
reply_of (write.Inserted ids) = reply.Inserted ids
reply_of (write.Updated count) = reply.Updated count
reply_of (write.Deleted count) = reply.Deleted count

-- what is shown as an executor where nothing is unsettled
abbrev pub executed : Executing → Executed SessionsStanding TableRead
executed at = record { state = standing_beside at.sessions; history = at.numbers.last; last = last_change (history_of at.numbers); unsettled = [] }
