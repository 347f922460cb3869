-- Statements that are answered by the data alone.
use Rattle.std.specs.Prelude.{Option, Some, None, Ok, Err, IsSome}
use Rattle.std.proofs.Common.{◌≡◌, ℕ, List, Bool, false, refl, ap, subst}
use Rattle.par_base.specs.Checked.{Checked, ◌then◌}
use Rattle.version_graph.specs.Edges.{set_named}
use Rattle.statements.specs.Views.{StatementView, CreateVersion, DropVersion, Insert, Import, Update, Delete, Select, Materialize, Step, ShowLayout, Use, Session, Advise, Watch, Unwatch, Begin, Commit, Rollback}
use Rattle.statements.specs.declared.statement.TableName.{TableName}
use Rattle.csv_io.specs.Tables.{csv_rows}
use Rattle.engine_state.specs.SharedChecks.{known_version}
use Rattle.engine_state.specs.declared.reply.Reply.{Reply}
use Rattle.engine_state.specs.declared.reply.Reply.TheVariants.{Done}
use Rattle.engine_moves.specs.Laid.{Laid}
use Rattle.engine_moves.specs.Act.{act as act_in_full}
use Rattle.engine_moves.specs.Laws.{SameLaid, is_step}
use Rattle.engine_moves.specs.Moving.{Moving}
use Rattle.engine_moves.proofs.ActLaws.{unseen}
use Rattle.engine_sessions.specs.declared.answer.Answer.TheVariants.{Plain}
use Rattle.engine_sessions.specs.Standing.{Standing, moving_in, used_by, with_use}
use Rattle.engine_sessions.specs.InFull.{in_full, name_in_full, version_of}
use Rattle.engine_sessions.specs.Accesses.{accessed, is_move}
use Rattle.engine_sessions.specs.Act.{act, answer_of, behind, counted}
use Rattle.session_laws.specs.Sessions.{IsFull, NeedTheDataAlone, SameBehind}

-- the name of a table with its version says the same whatever is in use
same_version : (used other named : Option (List ℕ)) → IsSome named → version_of used named ≡ version_of other named
same_version used other (Some name) is = refl
same_version used other None is = absurd (let no : ⊥ = cc in no)

pub same_name : (used other : Option (List ℕ)) (name : TableName) → IsSome name.version → name_in_full used name ≡ name_in_full other name
same_name used other name is = ap (λ (v : Option (List ℕ)). record { version = v; table = name.table }) (same_version used other name.version is)

module _ (s t : Standing) (is : s.laid ≡ t.laid) where
  -- what the data answer
  same_answer : (csv move move' : Bool) (table other : Option ℕ) (m n : Checked (Reply × Moving)) → SameLaid m n
      → SameBehind (m then λ answer. Ok (answer_of csv answer.0, behind s move table answer.1)) (n then λ answer. Ok (answer_of csv answer.0, behind t move' other answer.1))
  same_answer csv move move' table other (Ok a) (Ok b) same = (ap (λ (r : Reply). answer_of csv r) same.0, same.1)
  same_answer csv move move' table other (Ok a) (Err r) same = absurd same
  same_answer csv move move' table other (Err r) (Ok a) same = absurd same
  same_answer csv move move' table other (Err r) (Err q) same = same

  same_counted : (csv : Bool) (x y : StatementView) → x ≡ y → is_step x ≡ false → SameBehind (counted s csv x) (counted t csv y)
  same_counted csv x y same off =
      same_answer csv (is_move x) (is_move y) (accessed s.laid.database x) (accessed t.laid.database y) (act_in_full (moving_in s) x) (act_in_full (moving_in t) y)
      (subst (λ (m : Checked (Reply × Moving)). SameLaid (act_in_full (moving_in s) x) m) (λ i. act_in_full (record { laid = is i; pending = t.pending }) (same i))
      (unseen s.laid s.pending t.pending x off))

  same_used : (name : List ℕ) (m n : Checked ℕ) → m ≡ n
      → SameBehind (m then λ set. Ok (Plain Done, record s { uses = with_use s.uses s.session name }))
      (n then λ set. Ok (Plain Done, record t { uses = with_use t.uses t.session name }))
  same_used name (Ok a) (Ok b) same = (refl, is)
  same_used name (Ok a) (Err r) same = absurd (let no : ⊥ = cc in no)
  same_used name (Err r) (Ok a) same = absurd (let no : ⊥ = cc in no)
  same_used name (Err r) (Err q) same = cc

  abbrev used_s : Option (List ℕ)
  used_s = used_by s.uses s.session

  abbrev used_t : Option (List ℕ)
  used_t = used_by t.uses t.session

  same_behind : (x : StatementView) → IsFull x → SameBehind (act s x) (act t x)
  same_behind (CreateVersion name from operators) full = same_counted false (CreateVersion name from operators) (CreateVersion name from operators) refl refl
  same_behind (DropVersion name) full = same_counted false (DropVersion name) (DropVersion name) refl refl
  same_behind (Insert name rows) full = same_counted false (in_full used_s (Insert name rows)) (in_full used_t (Insert name rows)) (ap (λ (n : TableName). Insert n rows) (same_name used_s used_t name full)) refl
  same_behind (Import name text) full = same_counted false (in_full used_s (Import name text)) (in_full used_t (Import name text)) (ap (λ (n : TableName). Insert n (csv_rows text)) (same_name used_s used_t name full)) refl
  same_behind (Update name assignments filter) full = same_counted false (in_full used_s (Update name assignments filter)) (in_full used_t (Update name assignments filter)) (ap (λ (n : TableName). Update n assignments filter) (same_name used_s used_t name full)) refl
  same_behind (Delete name filter) full = same_counted false (in_full used_s (Delete name filter)) (in_full used_t (Delete name filter)) (ap (λ (n : TableName). Delete n filter) (same_name used_s used_t name full)) refl
  same_behind (Select name items filter csv) full = same_counted csv (in_full used_s (Select name items filter csv)) (in_full used_t (Select name items filter csv)) (ap (λ (n : TableName). Select n items filter false) (same_name used_s used_t name full)) refl
  same_behind (Materialize named in_steps) full = same_counted false (Materialize named in_steps) (Materialize named in_steps) refl refl
  same_behind Step full = absurd full
  same_behind ShowLayout full = same_counted false ShowLayout ShowLayout refl refl
  same_behind (Use name) full = same_used name (known_version name (set_named s.laid.database.graph.versions name)) (known_version name (set_named t.laid.database.graph.versions name)) (ap (λ (l : Laid). known_version name (set_named l.database.graph.versions name)) is)
  same_behind (Session number) full = (refl, is)
  same_behind (Advise name) full = absurd full
  same_behind (Watch name) full = same_counted false (Watch name) (Watch name) refl refl
  same_behind (Unwatch number) full = same_counted false (Unwatch number) (Unwatch number) refl refl
  same_behind Begin full = same_counted false Begin Begin refl refl
  same_behind Commit full = same_counted false Commit Commit refl refl
  same_behind Rollback full = same_counted false Rollback Rollback refl refl

pub need_the_data_alone : NeedTheDataAlone
need_the_data_alone s t x is full = same_behind s t is x full
