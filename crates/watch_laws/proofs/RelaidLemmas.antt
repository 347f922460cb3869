-- One statement under another layout, with watches.
use Rattle.std.specs.Prelude.{Option, Some, None, Ok, Err, if◌then◌else◌}
use Rattle.std.proofs.Common.{◌≡◌, ◌+◌, ℕ, List, [], ◌∷◌, Bool, true, false, refl, sym, ap, ◌∙◌, subst}
use Rattle.par_base.specs.declared.limits.Target.{Target}
use Rattle.par_base.specs.Checked.{Checked, ◌then◌}
use Rattle.par_base.specs.declared.refusal.Refusal.TheVariants.{NoWatcherLeft}
use Rattle.engine_state.specs.declared.reply.Reply.TheVariants.{Watching}
use Rattle.statements.specs.Views.{StatementView, Materialize, Step}
use Rattle.version_graph.specs.Edges.{set_named}
use Rattle.change_feed.specs.Watches.{WatchState, WatchesState, watch_of, watched}
use Rattle.engine_feeds.specs.TransactionsAct.{act as act_unwatched}
use Rattle.engine_feeds.specs.Answer.{Answer}
use Rattle.engine_feeds.specs.TheVariants.{Plain}
use Rattle.engine_feeds.specs.SharedChecks.{known_version}
use Rattle.engine_feeds.specs.TransactionsStanding.{Standing as TransactionsStanding}
use Rattle.script_laws.specs.Moves.{tells_storage, with_layout as laid_out}
use Rattle.script_laws.proofs.RelaidLaws.{Leaves as LeavesBeside, materialize_leaves, relaid as relaid_beside, same_act as same_beside, step_leaves}
use Rattle.engine_feeds.specs.Act.{act, can_watch, data_in, ended_at, taken_for, told_of}
use Rattle.engine_feeds.specs.VersionNotes.{first_note, notes_along}
use Rattle.change_feed.specs.Feeds.{events_told}
use Rattle.engine_feeds.specs.Replies.{next_state}
use Rattle.engine_feeds.specs.Standing.{Standing}
use Rattle.watch_laws.specs.Moves.{AreIdle, with_layout}
use Rattle.watch_laws.proofs.BesideLaws.{told_beside}
use Rattle.watch_laws.proofs.KindLemmas.{Kind, acting, kind_of, unwatching, watching}
use Rattle.watch_laws.proofs.ToldLemmas.{nothing_along, same_told}

-- the same answer or refusal, and what stands behind it under this layout
abbrev pub relaid : List ℕ → List ℕ → Checked (Answer × Standing) → Checked (Answer × Standing)
relaid layout pending (Ok answer) = Ok (answer.0, with_layout answer.1 layout pending)
relaid layout pending (Err refusal) = Err refusal

-- the same, but for the layout and what is pending behind it
pub record SameBut (a b : Checked (Answer × Standing)) : Type 0 where
  pub layout : List ℕ
  pub pending : List ℕ
  pub is : b ≡ relaid layout pending a

module _ (s : Standing) (layout pending : List ℕ) where
  abbrev under : Standing
  under = with_layout s layout pending

  -- ---- WATCH and UNWATCH

  same_taken : (answer : Answer) (w : WatchesState) (b : Bool)
      → (if b then Ok (answer, record under { watches = w }) else Err NoWatcherLeft) ≡ relaid layout pending (if b then Ok (answer, record s { watches = w }) else Err NoWatcherLeft)
  same_taken answer w true = refl
  same_taken answer w false = refl

  same_watched : (name : List ℕ) (m : Checked ℕ) → (m then λ set. taken_for under name set) ≡ relaid layout pending (m then λ set. taken_for s name set)
  same_watched name (Ok set) = same_taken (Plain (Watching (s.watches.last + 1))) (watched name (first_note (data_in s) set) s.watches) (can_watch s.watches)
  same_watched name (Err refusal) = refl

  same_ended : (number : ℕ) (o : Option WatchState) → ended_at under number o ≡ relaid layout pending (ended_at s number o)
  same_ended number None = refl
  same_ended number (Some w) = refl

  -- ---- every other statement

  same_acted : (x : StatementView) (layout' pending' : List ℕ) (m : Checked (Answer × TransactionsStanding))
      → told_beside under x (relaid_beside layout' pending' m) ≡ relaid layout' pending' (told_beside s x m)
  same_acted x layout' pending' (Ok answer) =
      ap (λ (w : WatchesState). Ok (answer.0, record under { transactions = laid_out answer.1 layout' pending'; watches = w }))
      (same_told layout pending s.transactions answer.1 layout' pending' x s.watches)
  same_acted x layout' pending' (Err refusal) = refl

  same_by : (x : StatementView) → Kind x → tells_storage x ≡ false → SameBut (act s x) (act under x)
  same_by x (watching name is) off =
      subst (λ (y : StatementView). SameBut (act s y) (act under y)) (sym is)
      (record { layout = layout; pending = pending; is = same_watched name (known_version name (set_named (data_in s).graph.versions name)) })
  same_by x (unwatching number is) off =
      subst (λ (y : StatementView). SameBut (act s y) (act under y)) (sym is)
      (record { layout = layout; pending = pending; is = same_ended number (watch_of number s.watches.live) })
  same_by x (acting none by) off =
      let same = same_beside s.transactions layout pending x off in
      record {
        layout = same.layout;
        pending = same.pending;
        is = by under ∙ ap (λ (m : Checked (Answer × TransactionsStanding)). told_beside under x m) same.is ∙ same_acted x same.layout same.pending (act_unwatched s.transactions x)
            ∙ ap (relaid same.layout same.pending) (sym (by s));
      }

  pub same_act : (x : StatementView) → tells_storage x ≡ false → SameBut (act s x) (act under x)
  same_act x off = same_by x (kind_of x) off

-- ---- moves

-- what it leaves is all but the layout and what is pending
pub record Leaves (s : Standing) (m : Checked (Answer × Standing)) : Type 0 where
  pub layout : List ℕ
  pub pending : List ℕ
  pub next : next_state s m ≡ with_layout s layout pending

module _ (s : Standing) (idle : AreIdle s.watches) where
  -- a move tells nothing
  told_nothing : (next : TransactionsStanding) (layout pending : List ℕ) → next ≡ laid_out s.transactions layout pending
      → events_told (notes_along s.transactions.sessions.laid.database (next.sessions.laid.database ∷ [])) s.watches ≡ s.watches
  told_nothing next layout pending is =
      let d = s.transactions.sessions.laid.database in
      ap (λ (n : TransactionsStanding). events_told (notes_along d (n.sessions.laid.database ∷ [])) s.watches) is ∙ nothing_along d s.watches idle.live

  move_leaves : (x : StatementView) (m : Checked (Answer × TransactionsStanding))
      → ((next : TransactionsStanding) → told_of s.transactions x next s.watches ≡ events_told (notes_along s.transactions.sessions.laid.database (next.sessions.laid.database ∷ [])) s.watches)
      → LeavesBeside s.transactions m → Leaves s (told_beside s x m)
  move_leaves x (Ok answer) tells left = record {
    layout = left.layout;
    pending = left.pending;
    next = (let told = tells answer.1 ∙ told_nothing answer.1 left.layout left.pending left.next in λ i. record { transactions = left.next i; watches = told i });
  }
  move_leaves x (Err refusal) tells left = record { layout = s.transactions.sessions.laid.layout; pending = s.transactions.sessions.pending; next = refl }

  pub materialize_left : (named : List Target) (in_steps : Bool) → Leaves s (act s (Materialize named in_steps))
  materialize_left named in_steps = move_leaves (Materialize named in_steps) (act_unwatched s.transactions (Materialize named in_steps)) (λ next. refl) (materialize_leaves s.transactions named in_steps)

  pub step_left : Leaves s (act s Step)
  step_left = move_leaves Step (act_unwatched s.transactions Step) (λ next. refl) (step_leaves s.transactions)
