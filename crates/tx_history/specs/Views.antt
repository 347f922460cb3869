-- Open transactions as they are told.
use Rattle.std.specs.Prelude.{ℕ, ◌==◌, not, List, [], ◌∷◌, ◌++◌, filter, if◌then◌else◌, Option}
use Rattle.std.specs.List.{find}
use Rattle.statements.specs.Views.{StatementView}
use Rattle.session_tx.specs.Transactions.{TransactionState}
use Rattle.tx_history.specs.declared.table_read.TableRead.{TableRead}

-- what a transaction read, each with the history number at which it was, and the writes that it keeps, in full; both in order
abbrev pub TransactionView : Type 0
TransactionView = TransactionState StatementView TableRead

-- the open transaction of a session
pub record OpenView : Type 0 where
  pub session : ℕ
  pub transaction : TransactionView

abbrev pub no_transaction : TransactionView
no_transaction = record { reads = []; writes = [] }

-- that of a session
abbrev pub open_of : List OpenView → ℕ → Option OpenView
open_of opens session = find (λ (o : OpenView). o.session == session) opens

-- without it
abbrev pub without_open : List OpenView → ℕ → List OpenView
without_open opens session = filter (λ (o : OpenView). not (o.session == session)) opens

-- with this one in its place, or behind the others where it has none
abbrev pub with_open : List OpenView → ℕ → TransactionView → List OpenView
with_open [] session transaction = record { session = session; transaction = transaction } ∷ []
with_open (o ∷ os) session transaction =
    if o.session == session then record { session = session; transaction = transaction } ∷ os else o ∷ with_open os session transaction

-- with one read more, at this number
abbrev pub with_read : TransactionView → TableRead → ℕ → TransactionView
with_read t read at = record t { reads = t.reads ++ (read, at) ∷ [] }

-- with one write more
abbrev pub with_write : TransactionView → StatementView → TransactionView
with_write t write = record t { writes = t.writes ++ write ∷ [] }
