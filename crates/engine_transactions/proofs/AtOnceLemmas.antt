-- Statements that act at once and write no rows.
use Rattle.std.proofs.Common.{◌≡◌, ℕ, List, Option, Result, Ok, Err, refl, sym, ap, ◌∙◌}
use Rattle.par_base.specs.Checked.{Checked, ◌then◌}
use Rattle.par_base.specs.declared.fault.Fault.{Fault}
use Rattle.par_base.specs.declared.fault.Fault.TheVariants.{Refused, Memory as OutOfMemory}
use Rattle.par_base.specs.declared.refusal.Refusal.{Refusal}
use Rattle.statements.specs.declared.statement.OpText.{OpText}
use Rattle.statements.specs.declared.statement.Statement.{Statement}
use Rattle.statements.specs.declared.statement.Statement.TheVariants as statement
use Rattle.statements.specs.Views.{StatementView, statement_view}
use Rattle.engine_sessions.specs.Act.{act as act_beside, Answers as AnswersBeside}
use Rattle.engine_sessions.specs.Standing.{Standing as SessionsStanding}
use Rattle.engine_sessions.specs.declared.answer.Answer.{Answer}
use Rattle.engine_transactions.specs.Act.{Answers}
use Rattle.tx_history.specs.History.{History}
use Rattle.engine_transactions.specs.ByKind.{at_once_with, graph_behind}
use Rattle.engine_transactions.specs.Standing.{Standing}

-- the answer of the sessions, with the history behind it
pub given_at_once : (s : Standing) (x : StatementView) (behind : SessionsStanding → History) (r : Result Answer (Fault Refusal)) (next : SessionsStanding) (h : History) → AnswersBeside (act_beside s.sessions x) r next → h ≡ behind next → Answers (at_once_with s x behind) r (record s { sessions = next; history = h })
given_at_once s x behind (Ok answer) next h given is =
    ap (λ (m : Checked (Answer × SessionsStanding)). m then λ a. Ok (a.0, record s { sessions = a.1; history = behind a.1 })) given
    ∙ ap (λ (k : History). Ok (answer, record s { sessions = next; history = k })) (sym is)
given_at_once s x behind (Err (Refused r)) next h given is = ap (λ (m : Checked (Answer × SessionsStanding)). m then λ a. Ok (a.0, record s { sessions = a.1; history = behind a.1 })) given
given_at_once s x behind (Err (OutOfMemory memory)) next h given is = tt

-- a statement that changes no graph
pub plain_behind : (s : Standing) (st : Statement) → ((name : List ℕ) (from : Option (List ℕ)) (operators : List OpText) → st ≡ statement.CreateVersion name from operators → ⊥) → ((name : List ℕ) → st ≡ statement.DropVersion name → ⊥) → graph_behind s (statement_view st) ≡ (λ next. s.history)
plain_behind s (statement.CreateVersion name origin operators) a b = absurd (a name origin operators refl)
plain_behind s (statement.DropVersion name) a b = absurd (b name refl)
plain_behind s (statement.Insert table rows) a b = refl
plain_behind s (statement.Import table text) a b = refl
plain_behind s (statement.Update table assignments filter) a b = refl
plain_behind s (statement.Delete table filter) a b = refl
plain_behind s (statement.Select table items filter csv) a b = refl
plain_behind s (statement.Materialize named in_steps) a b = refl
plain_behind s statement.Step a b = refl
plain_behind s statement.ShowLayout a b = refl
plain_behind s (statement.Use name) a b = refl
plain_behind s (statement.Session number) a b = refl
plain_behind s (statement.Advise name) a b = refl
plain_behind s (statement.Watch name) a b = refl
plain_behind s (statement.Unwatch number) a b = refl
plain_behind s statement.Begin a b = refl
plain_behind s statement.Commit a b = refl
plain_behind s statement.Rollback a b = refl
