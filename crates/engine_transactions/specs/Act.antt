-- One event, with transactions: the answer or refusal of a statement, and what stands behind it.
use Rattle.std.specs.Prelude.{ℕ, ◌==◌, ◌++◌, Bool, false, not, List, [], ◌∷◌, length, map, filter_map, Option, Some, None, Result, Ok, Err, if◌then◌else◌}
use Rattle.std.specs.Option.{option_map_or}
use Rattle.par_base.specs.declared.fault.Fault.{Fault}
use Rattle.par_base.specs.declared.refusal.Refusal.{Refusal}
use Rattle.par_base.specs.declared.refusal.Refusal.TheVariants.{NoTransaction, NoVersionInUse, ReadAfterWrite, TransactionOpen}
use Rattle.par_base.specs.Checked.{Checked, Gives, ◌then◌}
use Rattle.statements.specs.Views.{StatementView, Begin, Commit, CreateVersion, Delete, DropVersion, Import, Insert, Rollback, Select, Update}
use Rattle.statements.specs.declared.statement.TableName.{TableName}
use Rattle.layout_planner.specs.declared.planning.TableCount.{TableCount}
use Rattle.session_tx.specs.Meaning.{Ran}
use Rattle.session_tx.specs.Commits.{commit, results}
use Rattle.session_tx.specs.Serial.{end_of}
use Rattle.session_tx.specs.declared.commit_fault.CommitFault.{CommitFault}
use Rattle.engine_state.specs.AnyDatabase.{AnyDatabase}
use Rattle.engine_sessions.specs.EngineMovesAct.{act as act_in_full}
use Rattle.engine_state.specs.declared.reply.Reply.TheVariants.{Committed, Done, Kept}
use Rattle.engine_state.specs.declared.reply.WriteReply.{WriteReply}
use Rattle.engine_sessions.specs.Accesses.{accessed, kept_behind, raised}
use Rattle.engine_sessions.specs.Act.{act as act_beside, answer_of}
use Rattle.engine_sessions.specs.Found.{Found, found}
use Rattle.engine_sessions.specs.InFull.{in_full, name_in_full}
use Rattle.engine_sessions.specs.Standing.{Standing as SessionsStanding, moving_in, used_by}
use Rattle.engine_sessions.specs.declared.answer.Answer.{Answer}
use Rattle.engine_sessions.specs.declared.answer.Answer.TheVariants.{Plain}
use Rattle.tx_history.specs.declared.table_read.TableRead.{TableRead}
use Rattle.tx_history.specs.History.{History, with_drop, with_version}
use Rattle.tx_history.specs.Refused.{refusal_of}
use Rattle.engine_transactions.specs.Changed.{has_changed, with_writes}
use Rattle.tx_history.specs.Views.{OpenView, TransactionView, no_transaction, open_of, with_open, with_read, with_write, without_open}
use Rattle.engine_transactions.specs.Standing.{Standing}
use Rattle.engine_transactions.specs.Meaning.{any_changed, executing, means}

-- ---- the transaction at hand

-- that of the session in which the statement is given
abbrev pub at_hand : Standing → Option OpenView
at_hand s = open_of s.opens s.sessions.session

-- with this one in its place
abbrev pub with_transaction : Standing → TransactionView → Standing
with_transaction s t = record s { opens = with_open s.opens s.sessions.session t }

-- without it
abbrev pub ended : Standing → Standing
ended s = record s { opens = without_open s.opens s.sessions.session }

-- ---- BEGIN and ROLLBACK

abbrev pub begun_by : Standing → Option OpenView → Checked (Answer × Standing)
begun_by s None = Ok (Plain Done, with_transaction s no_transaction)
begun_by s (Some o) = Err TransactionOpen

abbrev pub rolled_back : Standing → Option OpenView → Checked (Answer × Standing)
rolled_back s None = Err NoTransaction
rolled_back s (Some o) = Ok (Plain Done, ended s)

-- ---- a SELECT in a transaction

-- the table that was found, as it was read
abbrev pub read_of : TableName → Checked Found → Option TableRead
read_of name (Err refusal) = None
read_of name (Ok f) = option_map_or (λ version. Some (record { version = version; name = name.table; table = f.table.number })) name.version None

-- it is noted with the number of the last change
abbrev pub noted : Standing → TransactionView → Option TableRead → Standing
noted s t None = s
noted s t (Some read) = with_transaction s (with_read t read s.history.last)

-- it is answered at once from the data as they are, unless a write is kept, and counts no access
abbrev pub read_by : Standing → TransactionView → TableName → Bool → StatementView → Checked (Answer × Standing)
read_by s t name csv statement =
    if not (length t.writes == 0)
    then Err ReadAfterWrite
    else act_in_full (moving_in s.sessions) statement then λ answer.
    Ok (answer_of csv answer.0, noted s t (read_of name (found s.sessions.laid.database name)))

-- ---- a write in a transaction

-- it is kept in full, with the version in use now, and changes nothing
abbrev pub kept_by : Standing → TransactionView → Option (List ℕ) → StatementView → Checked (Answer × Standing)
kept_by s t None statement = Err NoVersionInUse
kept_by s t (Some version) statement = Ok (Plain Kept, with_transaction s (with_write t statement))

-- ---- COMMIT

-- the table versions that a transaction accesses: those that it read, and then those that it writes
abbrev pub accesses_of : AnyDatabase → TransactionView → List ℕ
accesses_of s t = map (λ (r : TableRead × ℕ). r.0.table) t.reads ++ filter_map (accessed s) t.writes

abbrev pub raised_all : List TableCount → List ℕ → List TableCount
raised_all counts [] = counts
raised_all counts (t ∷ ts) = raised_all (raised counts t) ts

-- behind the runs of its writes: they stay, all its accesses are counted, of those of tables that live, and they are one event
abbrev pub behind_commit : Standing → TransactionView → List (Ran SessionsStanding TableRead WriteReply) → Standing
behind_commit s t runs = record {
  sessions = record (end_of s.sessions runs) { counts = kept_behind false (end_of s.sessions runs).laid.database.graph.edges (raised_all s.sessions.counts (accesses_of s.sessions.laid.database t)) };
  history = with_writes s.history s.sessions.laid.database (any_changed s.sessions runs);
  opens = without_open s.opens s.sessions.session;
}

abbrev pub committed_as : Standing → TransactionView → Result (List (Ran SessionsStanding TableRead WriteReply)) CommitFault → Checked (Answer × Standing)
committed_as s t (Ok runs) = Ok (Plain (Committed (results runs)), behind_commit s t runs)
committed_as s t (Err fault) = Err (refusal_of t.reads fault)

abbrev pub committed : Standing → Option OpenView → Checked (Answer × Standing)
committed s None = Err NoTransaction
committed s (Some o) = committed_as s o.transaction (commit means (executing s) o.transaction)

-- ---- every other statement, which acts at once

-- what it changed, and when
abbrev pub history_behind : Standing → StatementView → SessionsStanding → History
history_behind s (CreateVersion name from operators) next = with_version s.history
history_behind s (DropVersion name) next = with_drop s.history name
history_behind s (Insert name rows) next = with_writes s.history s.sessions.laid.database (has_changed s.sessions.laid.database next.laid.database)
history_behind s (Import name text) next = with_writes s.history s.sessions.laid.database (has_changed s.sessions.laid.database next.laid.database)
history_behind s (Update name assignments filter) next = with_writes s.history s.sessions.laid.database (has_changed s.sessions.laid.database next.laid.database)
history_behind s (Delete name filter) next = with_writes s.history s.sessions.laid.database (has_changed s.sessions.laid.database next.laid.database)
history_behind s _ next = s.history

abbrev pub at_once : Standing → StatementView → Checked (Answer × Standing)
at_once s statement = act_beside s.sessions statement then λ answer. Ok (answer.0, record s { sessions = answer.1; history = history_behind s statement answer.1 })

-- ---- one event

-- a name in full, in the session at hand
abbrev pub named_at : Standing → TableName → TableName
named_at s name = name_in_full (used_by s.sessions.uses s.sessions.session) name

-- a SELECT, in a transaction or outside
abbrev pub selected_by : Standing → Option OpenView → TableName → Bool → StatementView → Checked (Answer × Standing)
selected_by s None name csv statement = at_once s statement
selected_by s (Some o) name csv statement = read_by s o.transaction (named_at s name) csv (in_full (used_by s.sessions.uses s.sessions.session) statement)

-- a write, in a transaction or outside
abbrev pub written_by : Standing → Option OpenView → TableName → StatementView → Checked (Answer × Standing)
written_by s None name statement = at_once s statement
written_by s (Some o) name statement = kept_by s o.transaction (named_at s name).version (in_full (used_by s.sessions.uses s.sessions.session) statement)

-- ONE EVENT
abbrev pub act : Standing → StatementView → Checked (Answer × Standing)
act s Begin = begun_by s (at_hand s)
act s Rollback = rolled_back s (at_hand s)
act s Commit = committed s (at_hand s)
act s (Select name items filter csv) = selected_by s (at_hand s) name csv (Select name items filter csv)
act s (Insert name rows) = written_by s (at_hand s) name (Insert name rows)
act s (Import name text) = written_by s (at_hand s) name (Import name text)
act s (Update name assignments filter) = written_by s (at_hand s) name (Update name assignments filter)
act s (Delete name filter) = written_by s (at_hand s) name (Delete name filter)
act s statement = at_once s statement

-- a call answers and leaves that, or the refusal, unless memory ran out
abbrev pub Answers : Checked (Answer × Standing) → Result Answer (Fault Refusal) → Standing → Type 0
Answers model result next = Gives (λ answer. (answer, next)) result model
