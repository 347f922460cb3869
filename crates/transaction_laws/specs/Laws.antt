-- Laws of transactions.
use Rattle.std.specs.Prelude.{◌≡◌, ℕ, List, Ok, Err, IsSome}
use Rattle.par_base.specs.Checked.{Checked}
use Rattle.statements.specs.Views.{StatementView, Delete, Insert, Update}
use Rattle.layout_planner.specs.Counts.{AreCounts}
use Rattle.layout_planner.specs.declared.planning.TableCount.{TableCount}
use Rattle.migration.specs.Pending.{IsPending}
use Rattle.op_any.specs.Operators.{AnyView, any_meaning}
use Rattle.db_state.specs.Fields.{IsDatabase}
use Rattle.db_state.specs.declared.parts.Parts.{Parts}
use Rattle.session_tx.specs.Meaning.{Ran}
use Rattle.engine_state.specs.declared.reply.WriteReply.{WriteReply}
use Rattle.engine_transactions.specs.EngineCoreKept.{state_of}
use Rattle.engine_transactions.specs.EngineSessionsAct.{act as act_beside}
use Rattle.engine_transactions.specs.Answer.{Answer}
use Rattle.engine_transactions.specs.EngineSessionsStanding.{Standing as SessionsStanding, begun_with, empty_standing}
use Rattle.engine_transactions.specs.Meaning.{means}
use Rattle.engine_transactions.specs.Serial.{OneAfterTheOther, answer_to}
use Rattle.engine_transactions.specs.Standing.{begun}
use Rattle.tx_history.specs.declared.table_read.TableRead.{TableRead}
use Rattle.transaction_laws.specs.Orderly.{IsOrderly}

-- SERIAL REPLIES: whatever sessions do beside each other, their accepted transactions in the order of their commits, and the other statements between them, have one after the other the same answers, and leave the same
abbrev pub TransactionsAreSerial : Type 0
TransactionsAreSerial = (sessions : SessionsStanding) (script : List StatementView) → IsOrderly sessions → OneAfterTheOther (begun sessions) script

-- so from the database without versions, and from every database that is kept or was loaded, with what is counted and pending beside it
abbrev pub EmptyIsOrderly : Type 0
EmptyIsOrderly = (limit : ℕ) → IsOrderly (empty_standing limit)

abbrev pub DatabasesAreOrderly : Type 0
DatabasesAreOrderly =
    (k : Parts AnyView) (counts : List TableCount) (pending : List ℕ) → IsDatabase any_meaning k → AreCounts k.graph.edges counts → IsPending k.graph.edges k.layout.operators pending
    → IsOrderly (begun_with (state_of k) counts pending)

-- ---- what a kept write means

-- a write that names the version of its table, as writes are kept
abbrev pub IsFullWrite : StatementView → Type 0
IsFullWrite (Insert name rows) = IsSome name.version
IsFullWrite (Update name assignments filter) = IsSome name.version
IsFullWrite (Delete name filter) = IsSome name.version
IsFullWrite _ = ⊥

-- the same answer, with the same behind it but for the access that is counted; or the same refusal
abbrev pub SameButCounts : Checked (Ran SessionsStanding TableRead WriteReply) → Checked (Answer × SessionsStanding) → Type 0
SameButCounts (Ok run) (Ok answer) = (answer.0 ≡ answer_to run.done) × (record answer.1 { counts = run.next.counts } ≡ run.next)
SameButCounts (Err refusal) (Err other) = refusal ≡ other
SameButCounts (Ok run) (Err other) = ⊥
SameButCounts (Err refusal) (Ok answer) = ⊥

-- it means what it means outside a transaction
abbrev pub WritesMeanAsOutside : Type 0
WritesMeanAsOutside = (s : SessionsStanding) (statement : StatementView) → IsOrderly s → IsFullWrite statement → SameButCounts (means s statement) (act_beside s statement)
