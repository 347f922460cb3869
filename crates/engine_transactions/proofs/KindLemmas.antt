-- One event, by what its statement is.
use Rattle.std.proofs.Common.{◌≡◌, if◌then◌else◌, ℕ, ◌==◌, List, length, Bool, false, not, Option, Some, None, Ok, Err, refl, ap, sym, subst}
use Rattle.par_base.specs.Checked.{Checked, ◌then◌}
use Rattle.par_base.specs.declared.refusal.Refusal.TheVariants.{ReadAfterWrite}
use Rattle.statements.specs.Views.{StatementView, Tree, CreateVersion, DropVersion, Insert, Import, Update, Delete, Select, Materialize, Step, ShowLayout, Use, Session, Advise, Watch, Unwatch, Begin, Commit, Rollback}
use Rattle.statements.specs.declared.statement.TableName.{TableName}
use Rattle.engine_state.specs.AnyDatabase.{AnyDatabase}
use Rattle.engine_state.specs.declared.reply.Reply.{Reply}
use Rattle.engine_sessions.specs.Found.{found}
use Rattle.engine_sessions.specs.Statements.{acted_select}
use Rattle.engine_sessions.specs.EngineCoreAct.{with_data}
use Rattle.engine_sessions.specs.Laid.{Laid}
use Rattle.engine_sessions.specs.EngineMovesAct.{pending_behind}
use Rattle.engine_sessions.specs.Act.{answer_of}
use Rattle.engine_sessions.specs.Moving.{Moving}
use Rattle.engine_sessions.specs.declared.answer.Answer.{Answer}
use Rattle.engine_transactions.specs.Act.{act, at_hand, at_once, kept_by, named_at, noted, read_of, selected_by, written_by}
use Rattle.engine_transactions.specs.ByKind.{acted_by, at_once_with, full_at, graph_behind, selected_in, written_at, written_full}
use Rattle.tx_history.specs.Kinds.{kind_in, version_told}
use Rattle.tx_history.specs.Views.{OpenView}
use Rattle.engine_transactions.specs.Standing.{Standing}
use Rattle.tx_history.specs.declared.statement_kind.StatementKind.{StatementKind}
use Rattle.tx_history.specs.declared.statement_kind.StatementKind.TheVariants as kind

-- what a SELECT reads, beside its layout, beside what is pending, and as it is answered
abbrev laid_read : Laid → Checked (Reply × AnyDatabase) → Checked (Reply × Laid)
laid_read s m = m then λ answer. Ok (with_data s answer)

abbrev moving_read : (Laid → List ℕ) → Checked (Reply × Laid) → Checked (Reply × Moving)
moving_read pending m = m then λ answer. Ok (answer.0, record { laid = answer.1; pending = pending answer.1 })

abbrev answered_read : Bool → Standing → Checked (Reply × Moving) → Checked (Answer × Standing)
answered_read csv next m = m then λ answer. Ok (answer_of csv answer.0, next)

abbrev answer_read : Bool → Checked (Reply × AnyDatabase) → Checked Answer
answer_read csv m = m then λ answer. Ok (answer_of csv answer.0)

abbrev with_next : Standing → Checked Answer → Checked (Answer × Standing)
with_next next m = m then λ answer. Ok (answer, next)

-- what a SELECT answers is what it reads
reads_same : (m : Checked (Reply × AnyDatabase)) (s : Laid) (pending : Laid → List ℕ) (csv : Bool) (next : Standing)
    → answered_read csv next (moving_read pending (laid_read s m)) ≡ with_next next (answer_read csv m)
reads_same (Ok a) s pending csv next = refl
reads_same (Err r) s pending csv next = refl

same_selected : (s : Standing) (o : Option OpenView) (name : TableName) (items : Option (List (List ℕ))) (filter : Option Tree) (csv : Bool) → selected_by s o name csv (Select name items filter csv) ≡ selected_in s o (Select name items filter csv)
same_selected s None name items filter csv = refl
same_selected s (Some o) name items filter csv =
    let db = s.sessions.laid.database in
    let full = named_at s name in
    let next = noted s o.transaction (read_of full (found db full)) in
    let pending : Laid → List ℕ = λ l. pending_behind false l s.sessions.pending in
    ap (λ (m : Checked (Answer × Standing)). if not (length o.transaction.writes == 0) then Err ReadAfterWrite else m) (reads_same (acted_select db full items filter) s.sessions.laid pending csv next)

-- a write in a transaction is kept with its version told
same_written : (s : Standing) (o : Option OpenView) (name : TableName) (x : StatementView) → (named_at s name).version ≡ version_told (full_at s x) → written_by s o name x ≡ written_at s o x
same_written s None name x told = refl
same_written s (Some o) name x told = ap (λ (v : Option (List ℕ)). kept_by s o.transaction v (full_at s x)) told

-- ONE EVENT, by what its statement is
pub act_by_kind : (s : Standing) (x : StatementView) → act s x ≡ acted_by (kind_in x) s x
act_by_kind s (CreateVersion name from operators) = refl
act_by_kind s (DropVersion name) = refl
act_by_kind s (Insert name rows) = same_written s (at_hand s) name (Insert name rows) refl
act_by_kind s (Import name text) = same_written s (at_hand s) name (Import name text) refl
act_by_kind s (Update name assignments filter) = same_written s (at_hand s) name (Update name assignments filter) refl
act_by_kind s (Delete name filter) = same_written s (at_hand s) name (Delete name filter) refl
act_by_kind s (Select name items filter csv) = same_selected s (at_hand s) name items filter csv
act_by_kind s (Materialize named in_steps) = refl
act_by_kind s Step = refl
act_by_kind s ShowLayout = refl
act_by_kind s (Use name) = refl
act_by_kind s (Session number) = refl
act_by_kind s (Advise name) = refl
act_by_kind s (Watch name) = refl
act_by_kind s (Unwatch number) = refl
act_by_kind s Begin = refl
act_by_kind s Commit = refl
act_by_kind s Rollback = refl

-- a statement that is no write
pub once_behind : (s : Standing) (x : StatementView) → (kind_in x ≡ kind.Write → ⊥) → at_once s x ≡ at_once_with s x (graph_behind s x)
once_behind s (CreateVersion name from operators) other = refl
once_behind s (DropVersion name) other = refl
once_behind s (Insert name rows) other = absurd (other refl)
once_behind s (Import name text) other = absurd (other refl)
once_behind s (Update name assignments filter) other = absurd (other refl)
once_behind s (Delete name filter) other = absurd (other refl)
once_behind s (Select name items filter csv) other = refl
once_behind s (Materialize named in_steps) other = refl
once_behind s Step other = refl
once_behind s ShowLayout other = refl
once_behind s (Use name) other = refl
once_behind s (Session number) other = refl
once_behind s (Advise name) other = refl
once_behind s (Watch name) other = refl
once_behind s (Unwatch number) other = refl
once_behind s Begin other = refl
once_behind s Commit other = refl
once_behind s Rollback other = refl

-- whether it is a write
abbrev pub IsWrite : StatementKind → Type 0
IsWrite kind.Write = Unit {0}
IsWrite _ = ⊥

pub is_write : (x : StatementView) → kind_in x ≡ kind.Write → IsWrite (kind_in x)
is_write x is = subst IsWrite (sym is) tt

-- a write
pub once_written : (s : Standing) (x : StatementView) → IsWrite (kind_in x) → at_once s x ≡ written_full s (full_at s x)
once_written s (CreateVersion name from operators) is = absurd is
once_written s (DropVersion name) is = absurd is
once_written s (Insert name rows) is = refl
once_written s (Import name text) is = refl
once_written s (Update name assignments filter) is = refl
once_written s (Delete name filter) is = refl
once_written s (Select name items filter csv) is = absurd is
once_written s (Materialize named in_steps) is = absurd is
once_written s Step is = absurd is
once_written s ShowLayout is = absurd is
once_written s (Use name) is = absurd is
once_written s (Session number) is = absurd is
once_written s (Advise name) is = absurd is
once_written s (Watch name) is = absurd is
once_written s (Unwatch number) is = absurd is
once_written s Begin is = absurd is
once_written s Commit is = absurd is
once_written s Rollback is = absurd is
