-- Statements that need no session.
use Rattle.std.specs.Prelude.{Option, Ok, Err}
use Rattle.std.proofs.Common.{◌≡◌, ℕ, List, Bool, false, refl, ap, subst}
use Rattle.par_base.specs.Checked.{Checked, ◌then◌}
use Rattle.version_graph.specs.Edges.{set_named}
use Rattle.statements.specs.Views.{StatementView, CreateVersion, DropVersion, Insert, Import, Update, Delete, Select, Materialize, Step, ShowLayout, Use, Session, Advise, Watch, Unwatch, Begin, Commit, Rollback}
use Rattle.statements.specs.declared.statement.TableName.{TableName}
use Rattle.csv_io.specs.Tables.{csv_rows}
use Rattle.layout_planner.specs.declared.planning.TableCount.{TableCount}
use Rattle.engine_state.specs.SharedChecks.{known_version}
use Rattle.engine_state.specs.declared.reply.Reply.{Reply}
use Rattle.engine_state.specs.declared.reply.Reply.TheVariants.{Done}
use Rattle.engine_moves.specs.Laid.{Laid}
use Rattle.engine_moves.specs.Act.{act as act_in_full}
use Rattle.engine_moves.specs.Moving.{Moving}
use Rattle.engine_sessions.specs.declared.answer.Answer.{Answer}
use Rattle.engine_sessions.specs.declared.answer.Answer.TheVariants.{Plain}
use Rattle.engine_sessions.specs.Standing.{DifferInSessions, Standing, moving_in, used_by, with_use}
use Rattle.engine_sessions.specs.InFull.{in_full}
use Rattle.engine_sessions.specs.Accesses.{accessed, is_move}
use Rattle.engine_sessions.specs.Act.{act, advice_on, answer_of, behind, counted}
use Rattle.session_laws.specs.Sessions.{IsNamed, NeedNoSession, SameButSessions}
use Rattle.session_laws.proofs.AloneLemmas.{same_name}

module _ (s t : Standing) (is : DifferInSessions s t) where
  -- one answer of the engine
  same_answer : (csv move : Bool) (table : Option ℕ) (m : Checked (Reply × Moving))
      → SameButSessions (m then λ answer. Ok (answer_of csv answer.0, behind s move table answer.1)) (m then λ answer. Ok (answer_of csv answer.0, behind t move table answer.1))
  same_answer csv move table (Ok a) = (refl, record { laid = refl; pending = refl; counts = ap (λ (c : List TableCount). (behind (record s { counts = c }) move table a.1).counts) is.counts })
  same_answer csv move table (Err r) = refl

  -- a statement in full is carried out the same
  same_moving : moving_in s ≡ moving_in t
  same_moving = λ i. record { laid = is.laid i; pending = is.pending i }

  same_counted : (csv : Bool) (x : StatementView) → SameButSessions (counted s csv x) (counted t csv x)
  same_counted csv x = subst_answer (moving_in t) same_moving (accessed t.laid.database x) (ap (λ (l : Laid). accessed l.database x) is.laid)
    where
      subst_answer : (m : Moving) → moving_in s ≡ m → (table : Option ℕ) → accessed s.laid.database x ≡ table
          → SameButSessions (counted s csv x) (act_in_full m x then λ answer. Ok (answer_of csv answer.0, behind t (is_move x) table answer.1))
      subst_answer m same table at =
          let P : Moving × Option ℕ → Type 0 = λ (k : Moving × Option ℕ). SameButSessions (counted s csv x) (act_in_full k.0 x then λ answer. Ok (answer_of csv answer.0, behind t (is_move x) k.1 answer.1)) in
          subst P (λ i. (same i, at i)) (same_answer csv (is_move x) (accessed s.laid.database x) (act_in_full (moving_in s) x))

  same_full : (csv : Bool) (x y : StatementView) → x ≡ y → SameButSessions (counted s csv x) (counted t csv y)
  same_full csv x y same = subst (λ (z : StatementView). SameButSessions (counted s csv x) (counted t csv z)) same (same_counted csv x)

  same_used : (name : List ℕ) (m n : Checked ℕ) → m ≡ n
      → SameButSessions (m then λ set. Ok (Plain Done, record s { uses = with_use s.uses s.session name })) (n then λ set. Ok (Plain Done, record t { uses = with_use t.uses t.session name }))
  same_used name (Ok a) (Ok b) same = (refl, record { laid = is.laid; pending = is.pending; counts = is.counts })
  same_used name (Ok a) (Err r) same = absurd (let no : ⊥ = cc in no)
  same_used name (Err r) (Ok a) same = absurd (let no : ⊥ = cc in no)
  same_used name (Err r) (Err q) same = cc

  same_advised : (answer other : Answer) → answer ≡ other → (m n : Checked ℕ) → m ≡ n → SameButSessions (m then λ set. Ok (answer, s)) (n then λ set. Ok (other, t))
  same_advised answer other told (Ok a) (Ok b) same = (told, is)
  same_advised answer other told (Ok a) (Err r) same = absurd (let no : ⊥ = cc in no)
  same_advised answer other told (Err r) (Ok a) same = absurd (let no : ⊥ = cc in no)
  same_advised answer other told (Err r) (Err q) same = cc

  same_known : (name : List ℕ) → known_version name (set_named s.laid.database.graph.versions name) ≡ known_version name (set_named t.laid.database.graph.versions name)
  same_known name = ap (λ (l : Laid). known_version name (set_named l.database.graph.versions name)) is.laid

  abbrev used_s : Option (List ℕ)
  used_s = used_by s.uses s.session

  abbrev used_t : Option (List ℕ)
  used_t = used_by t.uses t.session

  same_answers : (x : StatementView) → IsNamed x → SameButSessions (act s x) (act t x)
  same_answers (CreateVersion name from operators) full = same_counted false (CreateVersion name from operators)
  same_answers (DropVersion name) full = same_counted false (DropVersion name)
  same_answers (Insert name rows) full = same_full false (in_full used_s (Insert name rows)) (in_full used_t (Insert name rows)) (ap (λ (n : TableName). Insert n rows) (same_name used_s used_t name full))
  same_answers (Import name text) full = same_full false (in_full used_s (Import name text)) (in_full used_t (Import name text)) (ap (λ (n : TableName). Insert n (csv_rows text)) (same_name used_s used_t name full))
  same_answers (Update name assignments filter) full = same_full false (in_full used_s (Update name assignments filter)) (in_full used_t (Update name assignments filter)) (ap (λ (n : TableName). Update n assignments filter) (same_name used_s used_t name full))
  same_answers (Delete name filter) full = same_full false (in_full used_s (Delete name filter)) (in_full used_t (Delete name filter)) (ap (λ (n : TableName). Delete n filter) (same_name used_s used_t name full))
  same_answers (Select name items filter csv) full = same_full csv (in_full used_s (Select name items filter csv)) (in_full used_t (Select name items filter csv)) (ap (λ (n : TableName). Select n items filter false) (same_name used_s used_t name full))
  same_answers (Materialize named in_steps) full = same_counted false (Materialize named in_steps)
  same_answers Step full = same_counted false Step
  same_answers ShowLayout full = same_counted false ShowLayout
  same_answers (Use name) full = same_used name _ _ (same_known name)
  same_answers (Session number) full = (refl, record { laid = is.laid; pending = is.pending; counts = is.counts })
  same_answers (Advise name) full = same_advised (advice_on s name) (advice_on t name) (λ i. advice_on (record t { laid = is.laid i; counts = is.counts i }) name) _ _ (same_known name)
  same_answers (Watch name) full = same_counted false (Watch name)
  same_answers (Unwatch number) full = same_counted false (Unwatch number)
  same_answers Begin full = same_counted false Begin
  same_answers Commit full = same_counted false Commit
  same_answers Rollback full = same_counted false Rollback

pub need_no_session : NeedNoSession
need_no_session s t x is full = same_answers s t is x full
