-- Scripts that don't depend on what stood in use before them.
use Rattle.std.specs.Prelude.{◌≡◌, List, [], ⊤}
use Rattle.statements.specs.Views.{StatementView, Begin, Commit, Rollback}
use Rattle.session_laws.specs.Said.{AreSaid, nothing_said}
use Rattle.engine_transactions.specs.Standing.{Standing}
use Rattle.engine_transactions.specs.Begun.{DifferInSessions, begun_again}
use Rattle.engine_transactions.specs.Replies.{replies, state_after}

-- a statement that is none of transactions
abbrev pub ActsAtOnce : StatementView → Type 0
ActsAtOnce Begin = ⊥
ActsAtOnce Commit = ⊥
ActsAtOnce Rollback = ⊥
ActsAtOnce _ = ⊤

-- where no transaction is open, statements that name their versions or stand behind a USE, and begin no transaction, are answered as from
-- the beginning over what stands, and leave the same but for sessions and history
abbrev pub SaidNeedNoSession : Type 0
SaidNeedNoSession = (s : Standing) (statements : List StatementView) → s.opens ≡ [] → AreSaid (begun_again s).sessions nothing_said statements
    → (replies (begun_again s) statements ≡ replies s statements)
    × DifferInSessions (state_after (begun_again s) statements) (state_after s statements)
