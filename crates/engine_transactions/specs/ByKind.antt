-- One event, by what its statement is to transactions.
use Rattle.std.specs.Prelude.{◌==◌, Bool, false, not, length, Option, Some, None, Ok, Err, if◌then◌else◌}
use Rattle.par_base.specs.Checked.{Checked, ◌then◌}
use Rattle.par_base.specs.declared.refusal.Refusal.TheVariants.{ReadAfterWrite}
use Rattle.statements.specs.Views.{StatementView, CreateVersion, DropVersion, Select}
use Rattle.engine_state.specs.AnyDatabase.{AnyDatabase}
use Rattle.engine_sessions.specs.Found.{found}
use Rattle.engine_sessions.specs.Act.{act as act_beside, counted, read_in}
use Rattle.engine_sessions.specs.InFull.{in_full, wants_csv}
use Rattle.engine_sessions.specs.Standing.{Standing as SessionsStanding, used_by}
use Rattle.engine_sessions.specs.declared.answer.Answer.{Answer}
use Rattle.engine_transactions.specs.Act.{at_hand, at_once, begun_by, committed, kept_by, noted, read_of, rolled_back}
use Rattle.tx_history.specs.History.{History, with_drop, with_version}
use Rattle.engine_transactions.specs.Changed.{has_changed, with_writes}
use Rattle.tx_history.specs.Kinds.{version_told}
use Rattle.tx_history.specs.Views.{OpenView, TransactionView}
use Rattle.engine_transactions.specs.Standing.{Standing}
use Rattle.tx_history.specs.declared.table_read.TableRead.{TableRead}
use Rattle.tx_history.specs.declared.statement_kind.StatementKind.{StatementKind}
use Rattle.tx_history.specs.declared.statement_kind.StatementKind.TheVariants as kind

-- the table of a SELECT, as it is read
abbrev pub read_told : AnyDatabase → StatementView → Option TableRead
read_told s (Select name items filter csv) = read_of name (found s name)
read_told s _ = None

-- the statement in full, in the session at hand
abbrev pub full_at : Standing → StatementView → StatementView
full_at s x = in_full (used_by s.sessions.uses s.sessions.session) x

-- ---- at once

-- a statement that acts at once, with the history that stands behind it
abbrev pub at_once_with : Standing → StatementView → (SessionsStanding → History) → Checked (Answer × Standing)
at_once_with s x behind = act_beside s.sessions x then λ answer. Ok (answer.0, record s { sessions = answer.1; history = behind answer.1 })

-- the history behind a statement that writes no rows
abbrev pub graph_behind : Standing → StatementView → SessionsStanding → History
graph_behind s (CreateVersion name from operators) next = with_version s.history
graph_behind s (DropVersion name) next = with_drop s.history name
graph_behind s _ next = s.history

-- the history behind a write
abbrev pub rows_behind : Standing → SessionsStanding → History
rows_behind s next = with_writes s.history s.sessions.laid.database (has_changed s.sessions.laid.database next.laid.database)

-- a write in full
abbrev pub written_full : Standing → StatementView → Checked (Answer × Standing)
written_full s full = counted s.sessions false full then λ answer. Ok (answer.0, record s { sessions = answer.1; history = rows_behind s answer.1 })

-- ---- in a transaction or outside

-- a SELECT in full, in a transaction without writes
abbrev pub read_full : Standing → TransactionView → Bool → StatementView → Checked (Answer × Standing)
read_full s t csv full = read_in s.sessions csv full then λ answer. Ok (answer, noted s t (read_told s.sessions.laid.database full))

abbrev pub selected_in : Standing → Option OpenView → StatementView → Checked (Answer × Standing)
selected_in s None x = at_once s x
selected_in s (Some o) x = if not (length o.transaction.writes == 0) then Err ReadAfterWrite else read_full s o.transaction (wants_csv x) (full_at s x)

abbrev pub written_at : Standing → Option OpenView → StatementView → Checked (Answer × Standing)
written_at s None x = at_once s x
written_at s (Some o) x = kept_by s o.transaction (version_told (full_at s x)) (full_at s x)

-- ONE EVENT, by what the statement is
abbrev pub acted_by : StatementKind → Standing → StatementView → Checked (Answer × Standing)
acted_by kind.Begin s x = begun_by s (at_hand s)
acted_by kind.Rollback s x = rolled_back s (at_hand s)
acted_by kind.Commit s x = committed s (at_hand s)
acted_by kind.Select s x = selected_in s (at_hand s) x
acted_by kind.Write s x = written_at s (at_hand s) x
acted_by kind.Other s x = at_once s x
