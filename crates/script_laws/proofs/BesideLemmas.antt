-- Beside transactions: what moves change for one statement.
use Rattle.std.specs.Prelude.{if◌then◌else◌, length, Ok, Err, Option, Some, None}
use Rattle.std.proofs.Common.{◌≡◌, ℕ, List, [], Bool, true, false, refl}
use Rattle.par_base.specs.declared.limits.Target.{Target}
use Rattle.par_base.specs.declared.refusal.Refusal.TheVariants.{NotBuilt}
use Rattle.layout_rules.specs.Closed.{closing}
use Rattle.statements.specs.Views.{StatementView, CreateVersion, DropVersion, Insert, Import, Update, Delete, Select, Materialize, Step, ShowLayout, Use, Session, Advise, Watch, Unwatch, Begin, Commit, Rollback}
use Rattle.version_graph.specs.Edges.{set_named}
use Rattle.par_base.specs.Checked.{Checked, ◌then◌}
use Rattle.engine_transactions.specs.AnyDatabase.{AnyDatabase}
use Rattle.engine_transactions.specs.SharedChecks.{known_version}
use Rattle.engine_transactions.specs.Reply.{Reply}
use Rattle.engine_transactions.specs.Reply.TheVariants.{Moved, Pending, Done as ok}
use Rattle.engine_transactions.specs.Laid.{Laid, moved_count}
use Rattle.engine_transactions.specs.EngineCoreAct.{acted_data, is_built, with_data}
use Rattle.engine_transactions.specs.EngineMovesAct.{pending_behind, stepped_at}
use Rattle.engine_transactions.specs.Moving.{Moving}
use Rattle.engine_transactions.specs.MigrationSides.{changing}
use Rattle.engine_transactions.specs.Answer.{Answer}
use Rattle.engine_transactions.specs.Answer.TheVariants.{Plain}
use Rattle.engine_transactions.specs.EngineSessionsStanding.{Standing, moving_in, used_by, with_use}
use Rattle.engine_transactions.specs.InFull.{in_full}
use Rattle.engine_transactions.specs.Accesses.{accessed}
use Rattle.engine_transactions.specs.EngineSessionsAct.{act, advice_on, answer_of, behind}
use Rattle.script_laws.specs.Moves.{laid_out, tells_storage}

-- the same answer or refusal, and what stands behind it under this layout
abbrev pub relaid : List ℕ → List ℕ → Checked (Answer × Standing) → Checked (Answer × Standing)
relaid layout pending (Ok answer) = Ok (answer.0, laid_out answer.1 layout pending)
relaid layout pending (Err refusal) = Err refusal

-- the same, but for the layout and what is pending behind it
pub record SameBut (a b : Checked (Answer × Standing)) : Type 0 where
  pub layout : List ℕ
  pub pending : List ℕ
  pub is : b ≡ relaid layout pending a

-- a statement on the data, beside a layout
abbrev pub beside : Laid → Bool → Checked (Reply × AnyDatabase) → Checked (Reply × Laid)
beside s b m = if b then (m then λ answer. Ok (with_data s answer)) else Err NotBuilt

-- .. and beside what is pending
abbrev pub beside_move : List ℕ → Bool → Checked (Reply × Laid) → Checked (Reply × Moving)
beside_move pending b m = m then λ answer. Ok (answer.0, record { laid = answer.1; pending = pending_behind b answer.1 pending })

-- its answer, and what is counted
abbrev answered : Standing → Bool → Bool → Option ℕ → Checked (Reply × Moving) → Checked (Answer × Standing)
answered s csv move table m = m then λ answer. Ok (answer_of csv answer.0, behind s move table answer.1)

module _ (s : Standing) (layout pending : List ℕ) where
  abbrev other : Standing
  other = laid_out s layout pending

  same_refused : (r : _) → SameBut (Err r) (Err r)
  same_refused r = record { layout = layout; pending = pending; is = refl }

  same_data : (csv : Bool) (table : Option ℕ) (b : Bool) (m : Checked (Reply × AnyDatabase)) → SameBut (answered s csv false table (beside_move s.pending false (beside s.laid b m))) (answered other csv false table (beside_move pending false (beside other.laid b m)))
  same_data csv table true (Ok answer) =
      let left = (with_data other.laid answer).1 in
      record { layout = left.layout; pending = pending_behind false left pending; is = refl }
  same_data csv table true (Err r) = same_refused r
  same_data csv table false m = same_refused NotBuilt

  same_used : (name : List ℕ) (m : Checked ℕ) → SameBut (m then λ set. Ok (Plain ok, record s { uses = with_use s.uses s.session name })) (m then λ set. Ok (Plain ok, record other { uses = with_use s.uses s.session name }))
  same_used name (Ok set) = record { layout = layout; pending = pending; is = refl }
  same_used name (Err r) = same_refused r

  same_advised : (answer : Answer) (m : Checked ℕ) → SameBut (m then λ set. Ok (answer, s)) (m then λ set. Ok (answer, other))
  same_advised answer (Ok set) = record { layout = layout; pending = pending; is = refl }
  same_advised answer (Err r) = same_refused r

  -- in full
  told_data : (csv : Bool) (x : StatementView) → SameBut (answered s csv false (accessed s.laid.database x) (beside_move s.pending false (beside s.laid (is_built x) (acted_data s.laid.database x))))
      (answered other csv false (accessed s.laid.database x) (beside_move pending false (beside other.laid (is_built x) (acted_data s.laid.database x))))
  told_data csv x = same_data csv (accessed s.laid.database x) (is_built x) (acted_data s.laid.database x)

  abbrev full : StatementView → StatementView
  full x = in_full (used_by s.uses s.session) x

  pub same_act : (x : StatementView) → tells_storage x ≡ false → SameBut (act s x) (act other x)
  same_act (CreateVersion name from operators) off = told_data false (full (CreateVersion name from operators))
  same_act (DropVersion name) off = told_data false (full (DropVersion name))
  same_act (Insert table rows) off = told_data false (full (Insert table rows))
  same_act (Import table bytes) off = told_data false (full (Import table bytes))
  same_act (Update table assignments filter) off = told_data false (full (Update table assignments filter))
  same_act (Delete table filter) off = told_data false (full (Delete table filter))
  same_act (Select table items filter csv) off = told_data csv (full (Select table items filter csv))
  same_act (Materialize named in_steps) off = absurd (let no : ⊥ = cc in no)
  same_act Step off = absurd (let no : ⊥ = cc in no)
  same_act ShowLayout off = absurd (let no : ⊥ = cc in no)
  same_act (Use name) off = same_used name (known_version name (set_named s.laid.database.graph.versions name))
  same_act (Session number) off = record { layout = layout; pending = pending; is = refl }
  same_act (Advise name) off = same_advised (advice_on s name) (known_version name (set_named s.laid.database.graph.versions name))
  same_act (Watch name) off = same_refused NotBuilt
  same_act (Unwatch number) off = same_refused NotBuilt
  same_act Begin off = same_refused NotBuilt
  same_act Commit off = same_refused NotBuilt
  same_act Rollback off = same_refused NotBuilt

-- what a MATERIALIZE makes of what closing gives, and its reply
abbrev moved_laid : Laid → Checked (List ℕ) → Checked (ℕ × Laid)
moved_laid s m = m then λ new. Ok (moved_count s new, record s { layout = new })

abbrev moved_reply : Checked (ℕ × Laid) → Checked (Reply × Laid)
moved_reply m = m then λ a. Ok (Moved a.0, a.1)

-- what a MATERIALIZE .. IN STEPS makes of it
abbrev started_by : Standing → Checked (List ℕ) → Checked (Reply × Moving)
started_by s m = (m then λ goal. Ok (changing s.laid.database.graph.edges s.laid.layout goal)) then λ flips. Ok (Pending (length flips), record (moving_in s) { pending = flips })

-- the next standing; a refused statement leaves it as it is
abbrev pub behind_all : Standing → Checked (Answer × Standing) → Standing
behind_all s (Ok answer) = answer.1
behind_all s (Err refusal) = s

-- what it leaves is all but the layout and what is pending
pub record Leaves (s : Standing) (m : Checked (Answer × Standing)) : Type 0 where
  pub layout : List ℕ
  pub pending : List ℕ
  pub next : behind_all s m ≡ laid_out s layout pending

leaves_all : (s : Standing) (r : _) → Leaves s (Err r)
leaves_all s r = record { layout = s.laid.layout; pending = s.pending; next = refl }

move_leaves : (s : Standing) (in_steps : Bool) (m : Checked (List ℕ)) → Leaves s (answered s false true None (if in_steps then started_by s m else beside_move s.pending true (moved_reply (moved_laid s.laid m))))
move_leaves s false (Ok new) = record { layout = new; pending = []; next = refl }
move_leaves s true (Ok new) = record { layout = s.laid.layout; pending = changing s.laid.database.graph.edges s.laid.layout new; next = refl }
move_leaves s false (Err r) = leaves_all s r
move_leaves s true (Err r) = leaves_all s r

pub step_leaves : (s : Standing) (operator : Option ℕ) → Leaves s (answered s false true None (stepped_at (moving_in s) operator))
step_leaves s (Some n) = record { layout = _; pending = _; next = refl }
step_leaves s None = leaves_all s _

-- a MATERIALIZE of either form
pub both_leave : (s : Standing) (named : List Target) (in_steps : Bool) → Leaves s (act s (Materialize named in_steps))
both_leave s named true = move_leaves s true (closing s.laid.database.graph s.laid.layout named)
both_leave s named false = move_leaves s false (closing s.laid.database.graph s.laid.layout named)
