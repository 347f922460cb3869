-- Which statements are carried out at once, and what moves leave of the data.
use Rattle.std.specs.Prelude.{◌⊎◌, length, Option, Some, None, Ok, Err}
use Rattle.std.proofs.Common.{◌≡◌, ℕ, Bool, true, false, List, inl, inr, refl, sym, ap}
use Rattle.par_base.specs.declared.limits.Target.{Target}
use Rattle.par_base.specs.Checked.{Checked, ◌then◌}
use Rattle.statements.specs.declared.statement.Statement.TheVariants as statement
use Rattle.statements.specs.Views.{StatementView, CreateVersion, DropVersion, Insert, Import, Update, Delete, Select, Materialize, Step, ShowLayout, Use, Session, Advise, Watch, Unwatch, Begin, Commit, Rollback}
use Rattle.engine_state.specs.declared.reply.Reply.{Reply}
use Rattle.engine_state.specs.declared.reply.Reply.TheVariants.{Pending}
use Rattle.migration.specs.Pending.{next_flip, pending_for}
use Rattle.engine_core.proofs.ChainLaws.{both_give, ok_is}
use Rattle.engine_core.specs.Act.{act as act_at_once}
use Rattle.engine_core.specs.Laid.{Laid}
use Rattle.engine_moves.specs.Act.{act, at_once, flipped_by, is_materialize, pending_behind, started, stepped, stepped_at}
use Rattle.engine_moves.specs.Laws.{SameLaid, is_step}
use Rattle.engine_moves.specs.Moving.{Moving}

-- ---- what is pending is seen by STEP alone

module _ (laid : Laid) (pending other : List ℕ) where
  -- what follows an answer of the engine
  abbrev then_pending : List ℕ → Bool → Checked (Reply × Laid) → Checked (Reply × Moving)
  then_pending p b m = m then λ answer. Ok (answer.0, record { laid = answer.1; pending = pending_behind b answer.1 p })

  same_once : (b : Bool) (m : Checked (Reply × Laid)) → SameLaid (then_pending pending b m) (then_pending other b m)
  same_once b (Ok answer) = (refl, refl)
  same_once b (Err r) = refl

  abbrev then_started : List ℕ → Checked (List ℕ) → Checked (Reply × Moving)
  then_started p m = m then λ flips. Ok (Pending (length flips), record { laid = laid; pending = flips })

  same_started : (m : Checked (List ℕ)) → SameLaid (then_started pending m) (then_started other m)
  same_started (Ok flips) = (refl, refl)
  same_started (Err r) = refl

  once : (x : StatementView) → SameLaid (at_once (record { laid = laid; pending = pending }) x) (at_once (record { laid = laid; pending = other }) x)
  once x = same_once (is_materialize x) (act_at_once laid x)

  pub unseen : (x : StatementView) → is_step x ≡ false → SameLaid (act (record { laid = laid; pending = pending }) x) (act (record { laid = laid; pending = other }) x)
  unseen Step off = absurd (let no : ⊥ = cc in no)
  unseen (Materialize named true) off = same_started (pending_for laid.database.graph laid.layout named)
  unseen (Materialize named false) off = once (Materialize named false)
  unseen (CreateVersion name from operators) off = once (CreateVersion name from operators)
  unseen (DropVersion name) off = once (DropVersion name)
  unseen (Insert table rows) off = once (Insert table rows)
  unseen (Import table text) off = once (Import table text)
  unseen (Update table assignments filter) off = once (Update table assignments filter)
  unseen (Delete table filter) off = once (Delete table filter)
  unseen (Select table items filter csv) off = once (Select table items filter csv)
  unseen ShowLayout off = once ShowLayout
  unseen (Use name) off = once (Use name)
  unseen (Session number) off = once (Session number)
  unseen (Advise name) off = once (Advise name)
  unseen (Watch name) off = once (Watch name)
  unseen (Unwatch number) off = once (Unwatch number)
  unseen Begin off = once Begin
  unseen Commit off = once Commit
  unseen Rollback off = once Rollback

-- ---- what moves in steps leave

-- a statement is carried out at once, begins a move in steps or is a STEP
abbrev pub Kind : Moving → StatementView → Type 0
Kind s x = (act s x ≡ at_once s x) ⊎ (((named : List Target) × (act s x ≡ started s named)) ⊎ (act s x ≡ stepped s))

pub kind_of : (s : Moving) (x : StatementView) → Kind s x
kind_of s Step = inr (inr refl)
kind_of s (Materialize named true) = inr (inl (named, refl))
kind_of s (Materialize named false) = inl refl
kind_of s (CreateVersion name from operators) = inl refl
kind_of s (DropVersion name) = inl refl
kind_of s (Insert table rows) = inl refl
kind_of s (Import table text) = inl refl
kind_of s (Update table assignments filter) = inl refl
kind_of s (Delete table filter) = inl refl
kind_of s (Select table items filter csv) = inl refl
kind_of s ShowLayout = inl refl
kind_of s (Use name) = inl refl
kind_of s (Session number) = inl refl
kind_of s (Advise name) = inl refl
kind_of s (Watch name) = inl refl
kind_of s (Unwatch number) = inl refl
kind_of s Begin = inl refl
kind_of s Commit = inl refl
kind_of s Rollback = inl refl

-- beginning a move in steps leaves data and layout
pub started_stays : (s : Moving) (named : List Target) (r : Reply × Moving) → started s named ≡ Ok r → r.1.laid ≡ s.laid
started_stays s named r h =
    let a = both_give (pending_for s.laid.database.graph s.laid.layout named) (λ pending. Ok (Pending (length pending), record s { pending = pending })) r h in
    ap (λ (r : Reply × Moving). r.1.laid) (sym (ok_is (Pending (length a.0), record s { pending = a.0 }) r a.2))

-- a STEP leaves the data
pub stepped_stays : (s : Moving) (r : Reply × Moving) → stepped s ≡ Ok r → r.1.laid.database ≡ s.laid.database
stepped_stays s r h = go (next_flip s.laid.layout s.pending) h
  where
    go : (o : Option ℕ) → stepped_at s o ≡ Ok r → r.1.laid.database ≡ s.laid.database
    go None h = absurd (let no : ⊥ = cc in no)
    go (Some n) h = ap (λ (r : Reply × Moving). r.1.laid.database) (sym (ok_is (_, flipped_by s n) r h))
