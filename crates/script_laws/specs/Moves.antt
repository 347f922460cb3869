-- What moves change for their script: no reply but their own and those of SHOW LAYOUT.
use Rattle.std.specs.Prelude.{◌≡◌, ℕ, Bool, true, not, cond, List, [], ◌∷◌, filter}
use Rattle.statements.specs.Views.{StatementView, ShowLayout}
use Rattle.engine_transactions.specs.Accesses.{is_move}
use Rattle.engine_transactions.specs.EngineSessionsStanding.{Standing as SessionsStanding}
use Rattle.engine_transactions.specs.Standing.{Standing}
use Rattle.engine_transactions.specs.Replies.{replies}

-- whether its reply tells what is stored where
abbrev pub tells_storage : StatementView → Bool
tells_storage ShowLayout = true
tells_storage statement = is_move statement

-- of the replies to these statements, those that don't
unfoldable pub heard : List StatementView → List (List ℕ) → List (List ℕ)
heard [] texts = []
heard (statement ∷ statements) [] = []
heard (statement ∷ statements) (text ∷ texts) = cond (tells_storage statement) (heard statements texts) (text ∷ heard statements texts)

-- the script with every MATERIALIZE and every STEP struck out
abbrev pub without_moves : List StatementView → List StatementView
without_moves statements = filter (λ statement. not (is_move statement)) statements

-- the same data, and all that sessions keep beside them, under another layout and with another move pending
abbrev pub laid_out : SessionsStanding → List ℕ → List ℕ → SessionsStanding
laid_out s layout pending = record s { laid = record s.laid { layout = layout }; pending = pending }

-- .. with the same history and the same open transactions
abbrev pub with_layout : Standing → List ℕ → List ℕ → Standing
with_layout s layout pending = record s { sessions = laid_out s.sessions layout pending }

-- NOBODY NOTICES: all other statements are answered the same, from any layout of the same data on, whatever is pending
abbrev pub MovesChangeNoReply : Type 0
MovesChangeNoReply = (s : Standing) (layout pending : List ℕ) (statements : List StatementView)
    → heard statements (replies s statements) ≡ heard (without_moves statements) (replies (with_layout s layout pending) (without_moves statements))
