-- Moves change no reply but their own and those of SHOW LAYOUT, and nothing that watchers are told.
use Rattle.std.specs.Prelude.{Ok, Err, Option}
use Rattle.std.specs.Io.KnownBytes.{Appends, Consumes}
use Rattle.std.proofs.Common.{◌≡◌, ℕ, List, [], ◌∷◌, Bool, false, cond, refl, sym, ap, ◌∙◌, subst}
use Rattle.par_base.specs.Checked.{Checked}
use Rattle.statements.specs.Views.{StatementView, CreateVersion, DropVersion, Insert, Import, Update, Delete, Select, Materialize, Step, ShowLayout, Use, Session, Advise, Watch, Unwatch, Begin, Commit, Rollback}
use Rattle.bidel_script.specs.Script.{IsScript}
use Rattle.engine_feeds.specs.Answer.{Answer}
use Rattle.engine_feeds.specs.EngineMovesAct.{pending_behind}
use Rattle.script_laws.specs.Moves.{heard, tells_storage, without_moves}
use Rattle.engine_feeds.specs.Act.{act}
use Rattle.engine_feeds.specs.Replies.{next_state, out, replies, state_after, text_of}
use Rattle.engine_feeds.specs.Standing.{Standing}
use Rattle.watch_laws.specs.Moves.{AreIdle, MovesChangeNoReply, MovesTellNothing, MovesUnseen, with_layout}
use Rattle.watch_laws.proofs.IdleLemmas.{idle_next}
use Rattle.watch_laws.proofs.RelaidLemmas.{Leaves, materialize_left, relaid, same_act, step_left}

-- two scripts, from where each begins: they have the same replies but those that tell what is stored, and leave the same watches
abbrev Alike : List StatementView → List StatementView → Standing → Standing → Type 0
Alike xs ys s t = (heard xs (replies s xs) ≡ heard ys (replies t ys)) × ((state_after s xs).watches ≡ (state_after t ys).watches)

-- the lines are the same
same_text : (layout pending : List ℕ) (m : Checked (Answer × Standing)) → text_of (relaid layout pending m) ≡ text_of m
same_text layout pending (Ok answer) = refl
same_text layout pending (Err refusal) = refl

-- a statement that isn't struck out has its reply on both sides
both_heard : (s t : Standing) (x : StatementView) (xs ys : List StatementView) → tells_storage x ≡ false → text_of (act s x) ≡ text_of (act t x)
    → Alike xs ys (next_state s (act s x)) (next_state t (act t x)) → Alike (x ∷ xs) (x ∷ ys) s t
unfolding heard replies state_after
both_heard s t x xs ys off same rest =
    let hx : List (List ℕ) = heard xs (replies (next_state s (act s x)) xs) in
    let hy : List (List ℕ) = heard ys (replies (next_state t (act t x)) ys) in (
      ap (λ (c : Bool). cond c hx (text_of (act s x) ∷ hx)) off
          ∙ ap (λ (text : List ℕ). text ∷ hx) same
          ∙ ap (λ (more : List (List ℕ)). text_of (act t x) ∷ more) rest.0
          ∙ sym (ap (λ (c : Bool). cond c hy (text_of (act t x) ∷ hy)) off),
      rest.1,
    )

module _ (xs : List StatementView) (more : (s : Standing) (layout pending : List ℕ) → AreIdle s.watches → Alike xs (without_moves xs) s (with_layout s layout pending)) where
  -- whatever the state behind is, but for its layout and what is pending
  rest_told : (s t : Standing) (layout pending : List ℕ) → AreIdle s.watches → t ≡ with_layout s layout pending → Alike xs (without_moves xs) s t
  rest_told s t layout pending idle is = subst (λ (u : Standing). Alike xs (without_moves xs) s u) (sym is) (more s layout pending idle)

  rest_laid : (s : Standing) (layout pending layout' pending' : List ℕ) (m : Checked (Answer × Standing)) → AreIdle (next_state s m).watches
      → Alike xs (without_moves xs) (next_state s m) (next_state (with_layout s layout pending) (relaid layout' pending' m))
  rest_laid s layout pending layout' pending' (Ok answer) idle = more answer.1 layout' pending' idle
  rest_laid s layout pending layout' pending' (Err refusal) idle = more s layout pending idle

  rest_relaid : (s : Standing) (layout pending layout' pending' : List ℕ) (m n : Checked (Answer × Standing)) → AreIdle (next_state s m).watches → n ≡ relaid layout' pending' m
      → Alike xs (without_moves xs) (next_state s m) (next_state (with_layout s layout pending) n)
  rest_relaid s layout pending layout' pending' m n idle is =
      subst (λ (k : Checked (Answer × Standing)). Alike xs (without_moves xs) (next_state s m) (next_state (with_layout s layout pending) k)) (sym is)
      (rest_laid s layout pending layout' pending' m idle)

  told : (s : Standing) (layout pending : List ℕ) → AreIdle s.watches → (x : StatementView) → tells_storage x ≡ false → Alike (x ∷ xs) (x ∷ without_moves xs) s (with_layout s layout pending)
  told s layout pending idle x off =
      let same = same_act s layout pending x off in
      let t = with_layout s layout pending in
      both_heard s t x xs (without_moves xs) off (sym (ap text_of same.is ∙ same_text same.layout same.pending (act s x)))
      (rest_relaid s layout pending same.layout same.pending (act s x) (act t x) (idle_next s idle x) same.is)

  -- a move that is struck out
  gone : (s : Standing) (layout pending : List ℕ) (m : Checked (Answer × Standing)) → AreIdle (next_state s m).watches → Leaves s m → Alike xs (without_moves xs) (next_state s m) (with_layout s layout pending)
  gone s layout pending m idle left = rest_told (next_state s m) (with_layout s layout pending) layout pending idle (sym (ap (λ (u : Standing). with_layout u layout pending) left.next))

  one_more : (s : Standing) (layout pending : List ℕ) → AreIdle s.watches → (x : StatementView) → Alike (x ∷ xs) (without_moves (x ∷ xs)) s (with_layout s layout pending)
  unfolding heard replies state_after
  one_more s layout pending idle (CreateVersion name from operators) = told s layout pending idle (CreateVersion name from operators) refl
  one_more s layout pending idle (DropVersion name) = told s layout pending idle (DropVersion name) refl
  one_more s layout pending idle (Insert table rows) = told s layout pending idle (Insert table rows) refl
  one_more s layout pending idle (Import table bytes) = told s layout pending idle (Import table bytes) refl
  one_more s layout pending idle (Update table assignments filter) = told s layout pending idle (Update table assignments filter) refl
  one_more s layout pending idle (Delete table filter) = told s layout pending idle (Delete table filter) refl
  one_more s layout pending idle (Select table items filter csv) = told s layout pending idle (Select table items filter csv) refl
  one_more s layout pending idle (Materialize named in_steps) =
      gone s layout pending (act s (Materialize named in_steps)) (idle_next s idle (Materialize named in_steps)) (materialize_left s idle named in_steps)
  one_more s layout pending idle Step = gone s layout pending (act s Step) (idle_next s idle Step) (step_left s idle)
  one_more s layout pending idle ShowLayout =
      let t = with_layout s layout pending in
      rest_told (next_state s (act s ShowLayout)) (next_state t (act t ShowLayout)) layout (pending_behind false t.transactions.sessions.laid pending) (idle_next s idle ShowLayout) refl
  one_more s layout pending idle (Use name) = told s layout pending idle (Use name) refl
  one_more s layout pending idle (Session number) = told s layout pending idle (Session number) refl
  one_more s layout pending idle (Advise name) = told s layout pending idle (Advise name) refl
  one_more s layout pending idle (Watch name) = told s layout pending idle (Watch name) refl
  one_more s layout pending idle (Unwatch number) = told s layout pending idle (Unwatch number) refl
  one_more s layout pending idle Begin = told s layout pending idle Begin refl
  one_more s layout pending idle Commit = told s layout pending idle Commit refl
  one_more s layout pending idle Rollback = told s layout pending idle Rollback refl

-- ALL OTHER STATEMENTS ARE ANSWERED THE SAME, and watchers are told the same
alike : (xs : List StatementView) (s : Standing) (layout pending : List ℕ) → AreIdle s.watches → Alike xs (without_moves xs) s (with_layout s layout pending)
unfolding heard replies state_after
alike [] s layout pending idle = (refl, refl)
alike (x ∷ xs) s layout pending idle = one_more xs (alike xs) s layout pending idle x

pub same_replies : MovesChangeNoReply
same_replies s layout pending statements idle = (alike statements s layout pending idle).0

pub same_watches : MovesTellNothing
same_watches s layout pending statements idle = (alike statements s layout pending idle).1

-- so a run that took a script shows no move
pub moves_unseen : (from : Standing) (left left' held held' : Option (List ℕ)) (bytes : List ℕ) (statements : List StatementView) → AreIdle from.watches
    → Consumes left left' bytes → IsScript bytes statements → Appends held held' (out from statements) → MovesUnseen from left left' held held'
moves_unseen from left left' held held' bytes statements idle taken script put = record {
  bytes = bytes;
  statements = statements;
  taken = taken;
  script = script;
  put = put;
  same = same_replies from from.transactions.sessions.laid.layout from.transactions.sessions.pending statements idle;
}
