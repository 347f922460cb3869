-- The open transactions as they lie in memory.
use Rattle.std.specs.Prelude.{ℕ, ◌==◌, ◌-◌, List, [], ◌∷◌, length, map, take, if◌then◌else◌, Option, Some, None}
use Rattle.statements.specs.Views.{statement_view}
use Rattle.statements.specs.declared.statement.Statement.{Statement}
use Rattle.session_tx.specs.Transactions.{TransactionState}
use Rattle.tx_history.specs.Views.{OpenView, TransactionView, with_read}
use Rattle.tx_history.specs.declared.open_transaction.OpenTransaction.{OpenTransaction}
use Rattle.tx_history.specs.declared.table_read.TableRead.{TableRead}

-- a transaction, with its statements as they are told
abbrev pub transaction_view : TransactionState Statement TableRead → TransactionView
transaction_view t = record { reads = t.reads; writes = map statement_view t.writes }

abbrev pub open_view : OpenTransaction → OpenView
open_view o = record { session = o.session; transaction = transaction_view o.transaction }

abbrev pub opens_view : List OpenTransaction → List OpenView
opens_view opens = map open_view opens

-- ---- what inner calls do

-- that of a session is another one, where it has one
abbrev pub with_changed : List OpenView → ℕ → (TransactionView → TransactionView) → List OpenView
with_changed [] session change = []
with_changed (o ∷ os) session change = if o.session == session then record o { transaction = change o.transaction } ∷ os else o ∷ with_changed os session change

-- with a read more, where there is one
abbrev pub noted_in : TransactionView → Option TableRead → ℕ → TransactionView
noted_in t None at = t
noted_in t (Some read) at = with_read t read at

-- without its last write
abbrev pub without_last : TransactionView → TransactionView
without_last t = record t { writes = take (length t.writes - 1) t.writes }

-- the value that is there, as a list
abbrev pub one_of : {X : Type 0} → Option X → List X
one_of None = []
one_of (Some x) = x ∷ []
