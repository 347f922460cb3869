-- How the runs of an event lead along the data.
use Rattle.std.specs.Prelude.{◌≡◌, List, [], ◌∷◌, map, Option, Some, None, Result, Ok, Err}
use Rattle.engine_sessions.specs.Told.{CarriedLead}
use Rattle.engine_sessions.specs.WriteUndo.{Undo}
use Rattle.statements.specs.Views.{StatementView}
use Rattle.session_tx.specs.Meaning.{Ran}
use Rattle.session_tx.specs.Commits.{commit}
use Rattle.session_tx.specs.declared.commit_fault.CommitFault.{CommitFault}
use Rattle.engine_state.specs.AnyDatabase.{AnyDatabase}
use Rattle.engine_state.specs.declared.reply.WriteReply.{WriteReply}
use Rattle.engine_sessions.specs.EngineCoreUndo.{TellsTables}
use Rattle.engine_sessions.specs.Standing.{Standing as SessionsStanding}
use Rattle.engine_transactions.specs.Act.{at_hand}
use Rattle.tx_history.specs.Kinds.{kind_in}
use Rattle.engine_transactions.specs.Meaning.{executing, means}
use Rattle.tx_history.specs.Views.{OpenView}
use Rattle.engine_transactions.specs.Standing.{Standing}
use Rattle.tx_history.specs.declared.statement_kind.StatementKind.{StatementKind}
use Rattle.tx_history.specs.declared.statement_kind.StatementKind.TheVariants as kind
use Rattle.tx_history.specs.declared.table_read.TableRead.{TableRead}

-- a run led from one state of the data to the other: what takes it back tells the tables that got other rows, and by which changes
pub record Leads (old new : AnyDatabase) (undo : Undo) : Type 0 where
  pub graph : new.graph ≡ old.graph
  pub changed : TellsTables old new undo.changed
  pub carried : CarriedLead old.state.tables new.state.tables undo.changed undo.carried

-- RUNS ONE AFTER THE OTHER, where these are the data after them
abbrev pub LeadAlong : AnyDatabase → List AnyDatabase → List Undo → Type 0
LeadAlong d [] [] = Unit {0}
LeadAlong d (e ∷ es) (u ∷ us) = Leads d e u × LeadAlong e es us
LeadAlong d [] (u ∷ us) = ⊥
LeadAlong d (e ∷ es) [] = ⊥

-- ---- the data behind an event

-- after each of these runs
abbrev pub data_after : List (Ran SessionsStanding TableRead WriteReply) → List AnyDatabase
data_after runs = map {A = Ran SessionsStanding TableRead WriteReply} {B = AnyDatabase} (λ r. r.next.laid.database) runs

-- after each kept write of a commit
abbrev pub committed_data : Result (List (Ran SessionsStanding TableRead WriteReply)) CommitFault → List AnyDatabase
committed_data (Ok runs) = data_after runs
committed_data (Err fault) = []

abbrev pub open_data : Standing → Option OpenView → List AnyDatabase
open_data s (Some o) = committed_data (commit means (executing s) o.transaction)
open_data s None = []

-- after a write, unless an open transaction keeps it
abbrev pub written_data : Option OpenView → Standing → List AnyDatabase
written_data None next = next.sessions.laid.database ∷ []
written_data (Some o) next = []

-- by what the statement is
abbrev pub data_left : StatementKind → Standing → Standing → List AnyDatabase
data_left kind.Commit s next = open_data s (at_hand s)
data_left kind.Write s next = written_data (at_hand s) next
data_left _ s next = next.sessions.laid.database ∷ []

-- THE DATA BEHIND AN ACCEPTED STATEMENT: after each kept write of a COMMIT, after a write that isn't kept, and once after any statement that writes no rows
abbrev pub data_behind : Standing → StatementView → Standing → List AnyDatabase
data_behind s x next = data_left (kind_in x) s next
