-- Moves change no reply but their own and those of SHOW LAYOUT.
use Rattle.std.specs.Prelude.{Ok, Err}
use Rattle.std.proofs.Common.{◌≡◌, ℕ, List, [], ◌∷◌, Bool, false, cond, refl, sym, ap, ◌∙◌, subst}
use Rattle.statements.specs.Views.{StatementView, CreateVersion, DropVersion, Insert, Import, Update, Delete, Select, Materialize, Step, ShowLayout, Use, Session, Advise, Watch, Unwatch, Begin, Commit, Rollback}
use Rattle.par_base.specs.Checked.{Checked}
use Rattle.engine_transactions.specs.EngineMovesAct.{pending_behind}
use Rattle.engine_transactions.specs.Answer.{Answer}
use Rattle.engine_transactions.specs.Standing.{Standing}
use Rattle.engine_transactions.specs.Act.{act}
use Rattle.engine_transactions.specs.Replies.{next_state, text_of, replies}
use Rattle.script_laws.specs.Moves.{heard, tells_storage, with_layout, without_moves}
use Rattle.script_laws.proofs.RelaidLaws.{Leaves, materialize_leaves, relaid, same_act, step_leaves}

-- the lines are the same
same_text : (layout pending : List ℕ) (m : Checked (Answer × Standing)) → text_of (relaid layout pending m) ≡ text_of m
same_text layout pending (Ok answer) = refl
same_text layout pending (Err refusal) = refl

-- a statement that isn't struck out has its reply on both sides
both_heard : (s t : Standing) (x : StatementView) (xs ys : List StatementView) → tells_storage x ≡ false → text_of (act s x) ≡ text_of (act t x)
    → heard xs (replies (next_state s (act s x)) xs) ≡ heard ys (replies (next_state t (act t x)) ys)
    → heard (x ∷ xs) (replies s (x ∷ xs)) ≡ heard (x ∷ ys) (replies t (x ∷ ys))
unfolding heard replies
both_heard s t x xs ys off same rest =
    let hx : List (List ℕ) = heard xs (replies (next_state s (act s x)) xs) in
    let hy : List (List ℕ) = heard ys (replies (next_state t (act t x)) ys) in
    ap (λ (c : Bool). cond c hx (text_of (act s x) ∷ hx)) off
    ∙ ap (λ (text : List ℕ). text ∷ hx) same
    ∙ ap (λ (more : List (List ℕ)). text_of (act t x) ∷ more) rest
    ∙ sym (ap (λ (c : Bool). cond c hy (text_of (act t x) ∷ hy)) off)

module _ (xs : List StatementView) (more : (s : Standing) (layout pending : List ℕ) → heard xs (replies s xs) ≡ heard (without_moves xs) (replies (with_layout s layout pending) (without_moves xs))) where
  -- whatever the state behind is, but for its layout and what is pending
  rest_told : (s t : Standing) (layout pending : List ℕ) → t ≡ with_layout s layout pending → heard xs (replies s xs) ≡ heard (without_moves xs) (replies t (without_moves xs))
  rest_told s t layout pending is = subst (λ (u : Standing). heard xs (replies s xs) ≡ heard (without_moves xs) (replies u (without_moves xs))) (sym is) (more s layout pending)

  rest_laid : (s : Standing) (layout pending layout' pending' : List ℕ) (m : Checked (Answer × Standing))
      → heard xs (replies (next_state s m) xs) ≡ heard (without_moves xs) (replies (next_state (with_layout s layout pending) (relaid layout' pending' m)) (without_moves xs))
  rest_laid s layout pending layout' pending' (Ok answer) = more answer.1 layout' pending'
  rest_laid s layout pending layout' pending' (Err refusal) = more s layout pending

  rest_relaid : (s : Standing) (layout pending layout' pending' : List ℕ) (m n : Checked (Answer × Standing)) → n ≡ relaid layout' pending' m
      → heard xs (replies (next_state s m) xs) ≡ heard (without_moves xs) (replies (next_state (with_layout s layout pending) n) (without_moves xs))
  rest_relaid s layout pending layout' pending' m n is =
      subst (λ (k : Checked (Answer × Standing)). heard xs (replies (next_state s m) xs) ≡ heard (without_moves xs) (replies (next_state (with_layout s layout pending) k) (without_moves xs))) (sym is)
      (rest_laid s layout pending layout' pending' m)

  told : (s : Standing) (layout pending : List ℕ) (x : StatementView) → tells_storage x ≡ false
      → heard (x ∷ xs) (replies s (x ∷ xs)) ≡ heard (x ∷ without_moves xs) (replies (with_layout s layout pending) (x ∷ without_moves xs))
  told s layout pending x off =
      let same = same_act s layout pending x off in
      let t = with_layout s layout pending in
      both_heard s t x xs (without_moves xs) off (sym (ap text_of same.is ∙ same_text same.layout same.pending (act s x))) (rest_relaid s layout pending same.layout same.pending (act s x) (act t x) same.is)

  -- a move that is struck out
  gone : (s : Standing) (layout pending : List ℕ) (m : Checked (Answer × Standing)) → Leaves s m → heard xs (replies (next_state s m) xs) ≡ heard (without_moves xs) (replies (with_layout s layout pending) (without_moves xs))
  gone s layout pending m left = rest_told (next_state s m) (with_layout s layout pending) layout pending (sym (ap (λ (u : Standing). with_layout u layout pending) left.next))

  one_more : (s : Standing) (layout pending : List ℕ) (x : StatementView)
      → heard (x ∷ xs) (replies s (x ∷ xs)) ≡ heard (without_moves (x ∷ xs)) (replies (with_layout s layout pending) (without_moves (x ∷ xs)))
  unfolding heard replies
  one_more s layout pending (CreateVersion name from operators) = told s layout pending (CreateVersion name from operators) refl
  one_more s layout pending (DropVersion name) = told s layout pending (DropVersion name) refl
  one_more s layout pending (Insert table rows) = told s layout pending (Insert table rows) refl
  one_more s layout pending (Import table bytes) = told s layout pending (Import table bytes) refl
  one_more s layout pending (Update table assignments filter) = told s layout pending (Update table assignments filter) refl
  one_more s layout pending (Delete table filter) = told s layout pending (Delete table filter) refl
  one_more s layout pending (Select table items filter csv) = told s layout pending (Select table items filter csv) refl
  one_more s layout pending (Materialize named in_steps) = gone s layout pending (act s (Materialize named in_steps)) (materialize_leaves s named in_steps)
  one_more s layout pending Step = gone s layout pending (act s Step) (step_leaves s)
  one_more s layout pending ShowLayout =
      let t = with_layout s layout pending in
      rest_told (next_state s (act s ShowLayout)) (next_state t (act t ShowLayout)) layout (pending_behind false t.sessions.laid pending) refl
  one_more s layout pending (Use name) = told s layout pending (Use name) refl
  one_more s layout pending (Session number) = told s layout pending (Session number) refl
  one_more s layout pending (Advise name) = told s layout pending (Advise name) refl
  one_more s layout pending (Watch name) = told s layout pending (Watch name) refl
  one_more s layout pending (Unwatch number) = told s layout pending (Unwatch number) refl
  one_more s layout pending Begin = told s layout pending Begin refl
  one_more s layout pending Commit = told s layout pending Commit refl
  one_more s layout pending Rollback = told s layout pending Rollback refl

-- ALL OTHER STATEMENTS ARE ANSWERED THE SAME
pub same_replies : (xs : List StatementView) (s : Standing) (layout pending : List ℕ) → heard xs (replies s xs) ≡ heard (without_moves xs) (replies (with_layout s layout pending) (without_moves xs))
unfolding heard replies
same_replies [] s layout pending = refl
same_replies (x ∷ xs) s layout pending = one_more xs (same_replies xs) s layout pending x
