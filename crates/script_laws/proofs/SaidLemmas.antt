-- Scripts that begin no transaction are answered as beside transactions.
use Rattle.std.specs.Prelude.{Option, None, Ok, Err}
use Rattle.std.proofs.Common.{◌≡◌, List, [], ◌∷◌, refl, sym, ap, ◌∙◌, subst}
use Rattle.par_base.specs.Checked.{Checked, ◌then◌}
use Rattle.statements.specs.Views.{StatementView, CreateVersion, DropVersion, Insert, Import, Update, Delete, Select, Materialize, Step, ShowLayout, Use, Session, Advise, Watch, Unwatch, Begin, Commit, Rollback}
use Rattle.version_graph.specs.Sets.{Each}
use Rattle.session_laws.specs.Beside.{next_state as next_beside, replies as replies_beside, state_after as state_beside, text_of as text_beside}
use Rattle.session_laws.specs.Said.{AreSaid, IsSaid, Said, SaidNeedNoSession as SaidNeedBeside, nothing_said, said_after}
use Rattle.engine_transactions.specs.Answer.{Answer}
use Rattle.engine_transactions.specs.EngineSessionsStanding.{DifferInSessions, Standing as SessionsStanding}
use Rattle.engine_transactions.specs.EngineSessionsAct.{act as act_beside}
use Rattle.tx_history.specs.Views.{OpenView, open_of}
use Rattle.engine_transactions.specs.Standing.{Standing}
use Rattle.engine_transactions.specs.Begun.{begun_again}
use Rattle.engine_transactions.specs.Act.{act, at_hand, at_once, history_behind, selected_by, written_by}
use Rattle.engine_transactions.specs.Replies.{next_state, replies, state_after, text_of}
use Rattle.script_laws.specs.Said.{ActsAtOnce, SaidNeedNoSession}

-- what it changed, and when
abbrev with_history : Standing → StatementView → Checked (Answer × SessionsStanding) → Checked (Answer × Standing)
with_history s x m = m then λ answer. Ok (answer.0, record s { sessions = answer.1; history = history_behind s x answer.1 })

-- what holds behind a statement that acts at once, where no transaction is open
record ActsAsBeside (s : Standing) (x : StatementView) (m : Checked (Answer × Standing)) : Type 0 where
  pub text : text_of m ≡ text_beside (act_beside s.sessions x)
  pub next : (next_state s m).sessions ≡ next_beside s.sessions (act_beside s.sessions x)
  pub none : (next_state s m).opens ≡ []

module _ (s : Standing) (none : s.opens ≡ []) where
  acts_beside : (x : StatementView) (m : Checked (Answer × SessionsStanding)) → act_beside s.sessions x ≡ m → ActsAsBeside s x (with_history s x m)
  acts_beside x (Ok answer) is = record { text = ap text_beside (sym is); next = ap (next_beside s.sessions) (sym is); none = none }
  acts_beside x (Err refusal) is = record { text = ap text_beside (sym is); next = ap (next_beside s.sessions) (sym is); none = none }

  once : (x : StatementView) → ActsAsBeside s x (at_once s x)
  once x = acts_beside x (act_beside s.sessions x) refl

  -- with no open transaction a SELECT and a write act at once
  unopened : (x : StatementView) (by : Option OpenView → Checked (Answer × Standing)) → by None ≡ at_once s x → ActsAsBeside s x (by (at_hand s))
  unopened x by is = subst (λ (opens : List OpenView). ActsAsBeside s x (by (open_of opens s.sessions.session))) (sym none) (subst (ActsAsBeside s x) (sym is) (once x))

  acts_as : (x : StatementView) → ActsAtOnce x → ActsAsBeside s x (act s x)
  acts_as (CreateVersion name from operators) is = once (CreateVersion name from operators)
  acts_as (DropVersion name) is = once (DropVersion name)
  acts_as (Insert name rows) is = unopened (Insert name rows) (λ o. written_by s o name (Insert name rows)) refl
  acts_as (Import name text) is = unopened (Import name text) (λ o. written_by s o name (Import name text)) refl
  acts_as (Update name assignments filter) is = unopened (Update name assignments filter) (λ o. written_by s o name (Update name assignments filter)) refl
  acts_as (Delete name filter) is = unopened (Delete name filter) (λ o. written_by s o name (Delete name filter)) refl
  acts_as (Select name items filter csv) is = unopened (Select name items filter csv) (λ o. selected_by s o name csv (Select name items filter csv)) refl
  acts_as (Materialize named in_steps) is = once (Materialize named in_steps)
  acts_as Step is = once Step
  acts_as ShowLayout is = once ShowLayout
  acts_as (Use name) is = once (Use name)
  acts_as (Session number) is = once (Session number)
  acts_as (Advise name) is = once (Advise name)
  acts_as (Watch name) is = once (Watch name)
  acts_as (Unwatch number) is = once (Unwatch number)
  acts_as Begin is = absurd is
  acts_as Commit is = absurd is
  acts_as Rollback is = absurd is

-- all of them
pub all_beside : (xs : List StatementView) (s : Standing) → s.opens ≡ [] → Each ActsAtOnce xs
    → (replies s xs ≡ replies_beside s.sessions xs) × ((state_after s xs).sessions ≡ state_beside s.sessions xs)
unfolding replies replies_beside state_after state_beside
all_beside [] s none are = (refl, refl)
all_beside (x ∷ xs) s none are =
    let one = acts_as s none x are.0 in
    let rest = all_beside xs (next_state s (act s x)) one.none are.1 in (
      (λ i. one.text i ∷ rest.0 i) ∙ ap (λ (n : SessionsStanding). text_beside (act_beside s.sessions x) ∷ replies_beside n xs) one.next,
      rest.1 ∙ ap (λ (n : SessionsStanding). state_beside n xs) one.next,
    )

-- statements that are said so are none of transactions
at_once_said : (said : Said) (x : StatementView) → IsSaid said x → ActsAtOnce x
at_once_said said (CreateVersion name from operators) is = tt
at_once_said said (DropVersion name) is = tt
at_once_said said (Insert name rows) is = tt
at_once_said said (Import name text) is = tt
at_once_said said (Update name assignments filter) is = tt
at_once_said said (Delete name filter) is = tt
at_once_said said (Select name items filter csv) is = tt
at_once_said said (Materialize named in_steps) is = tt
at_once_said said Step is = tt
at_once_said said ShowLayout is = tt
at_once_said said (Use name) is = tt
at_once_said said (Session number) is = tt
at_once_said said (Advise name) is = tt
at_once_said said (Watch name) is = tt
at_once_said said (Unwatch number) is = tt
at_once_said said Begin is = absurd is
at_once_said said Commit is = absurd is
at_once_said said Rollback is = absurd is

are_at_once : (xs : List StatementView) (s : SessionsStanding) (said : Said) → AreSaid s said xs → Each ActsAtOnce xs
unfolding AreSaid
are_at_once [] s said are = tt
are_at_once (x ∷ xs) s said are = (at_once_said said x are.0, are_at_once xs (next_beside s (act_beside s x)) (said_after s.laid said x) are.1)

-- what differs in sessions does so where the standings are others of the same
pub differ_at : (a b c d : SessionsStanding) → a ≡ c → b ≡ d → DifferInSessions c d → DifferInSessions a b
differ_at a b c d same other differ = subst (λ (n : SessionsStanding). DifferInSessions n b) (sym same) (subst (DifferInSessions c) (sym other) differ)

pub said_need : SaidNeedBeside → SaidNeedNoSession
said_need law s xs none are =
    let once = are_at_once xs (begun_again s).sessions nothing_said are in
    let again = all_beside xs (begun_again s) refl once in
    let here = all_beside xs s none once in
    let one = law s.sessions xs are in
    (again.0 ∙ one.0 ∙ sym here.0, differ_at _ _ _ _ again.1 here.1 one.1)
