-- Statements with watches and without.
use Rattle.std.specs.Prelude.{Option, Some, None, Ok, Err, if◌then◌else◌}
use Rattle.std.proofs.Common.{◌≡◌, ◌+◌, ℕ, List, [], ◌∷◌, Bool, true, false, cond, refl, sym, ap, ◌∙◌, subst}
use Rattle.par_base.specs.Checked.{Checked, ◌then◌}
use Rattle.par_base.specs.declared.refusal.Refusal.TheVariants.{NoWatcherLeft}
use Rattle.statements.specs.Views.{StatementView}
use Rattle.version_graph.specs.Edges.{set_named}
use Rattle.change_feed.specs.Watches.{WatchState, WatchesState, watch_of, watched}
use Rattle.engine_feeds.specs.VersionNotes.{first_note}
use Rattle.engine_state.specs.declared.reply.Reply.TheVariants.{Watching}
use Rattle.engine_feeds.specs.TransactionsAct.{act as act_unwatched}
use Rattle.engine_feeds.specs.Answer.{Answer}
use Rattle.engine_feeds.specs.TheVariants.{Plain}
use Rattle.engine_feeds.specs.EngineTransactionsReplies.{next_state as next_unwatched, replies as replies_unwatched, state_after as state_unwatched, text_of as text_unwatched}
use Rattle.engine_feeds.specs.SharedChecks.{known_version}
use Rattle.engine_feeds.specs.TransactionsStanding.{Standing as TransactionsStanding}
use Rattle.engine_feeds.specs.Act.{act, acted_by, can_watch, data_in, ended_at, taken_for, told_of}
use Rattle.engine_feeds.specs.Replies.{next_state, replies, state_after, text_of}
use Rattle.engine_feeds.specs.Standing.{Standing}
use Rattle.watch_laws.specs.Beside.{OthersAreAnswered, StandsBeside, UnwatchedAreAnswered, WatchesNothing, is_of_watches, others}
use Rattle.watch_laws.proofs.KindLemmas.{Kind, acting, kind_of, unwatching, watching}

-- ---- one statement

-- what acts beside watches, and then tells them
abbrev pub told_beside : Standing → StatementView → Checked (Answer × TransactionsStanding) → Checked (Answer × Standing)
told_beside s x m = m then λ answer. Ok (answer.0, record { transactions = answer.1; watches = told_of s.transactions x answer.1 s.watches })

module _ (s : Standing) where
  same_next : (x : StatementView) (m : Checked (Answer × TransactionsStanding)) → (next_state s (told_beside s x m)).transactions ≡ next_unwatched s.transactions m
  same_next x (Ok answer) = refl
  same_next x (Err refusal) = refl

  same_text : (x : StatementView) (m : Checked (Answer × TransactionsStanding)) → text_of (told_beside s x m) ≡ text_unwatched m
  same_text x (Ok answer) = refl
  same_text x (Err refusal) = refl

  same_answer : (x : StatementView) (m : Checked (Answer × TransactionsStanding)) (answer : Answer × Standing) → told_beside s x m ≡ Ok answer → m ≡ Ok (answer.0, answer.1.transactions)
  same_answer x (Ok a) answer is =
      let made : Answer × Standing = (a.0, record { transactions = a.1; watches = told_of s.transactions x a.1 s.watches }) in
      let one : made ≡ answer = cc in
      ap (λ (b : Answer × Standing). Ok (b.0, b.1.transactions)) one
  same_answer x (Err refusal) answer is = absurd (let no : ⊥ = cc in no)

  -- WATCH leaves all but the watches
  taken_beside : (answer : Answer) (w : WatchesState) (b : Bool) → (next_state s (if b then Ok (answer, record s { watches = w }) else Err NoWatcherLeft)).transactions ≡ s.transactions
  taken_beside answer w true = refl
  taken_beside answer w false = refl

  watched_beside : (name : List ℕ) (m : Checked ℕ) → (next_state s (m then λ set. taken_for s name set)).transactions ≡ s.transactions
  watched_beside name (Ok set) = taken_beside (Plain (Watching (s.watches.last + 1))) (watched name (first_note (data_in s) set) s.watches) (can_watch s.watches)
  watched_beside name (Err refusal) = refl

  -- and so does UNWATCH
  ended_beside : (number : ℕ) (o : Option WatchState) → (next_state s (ended_at s number o)).transactions ≡ s.transactions
  ended_beside number None = refl
  ended_beside number (Some w) = refl

  next_by : (x : StatementView) → Kind x → (next_state s (act s x)).transactions ≡ next_unwatched s.transactions (act_unwatched s.transactions x)
  next_by x (watching name is) =
      subst (λ (y : StatementView). (next_state s (act s y)).transactions ≡ next_unwatched s.transactions (act_unwatched s.transactions y)) (sym is)
      (watched_beside name (known_version name (set_named (data_in s).graph.versions name)))
  next_by x (unwatching number is) =
      subst (λ (y : StatementView). (next_state s (act s y)).transactions ≡ next_unwatched s.transactions (act_unwatched s.transactions y)) (sym is)
      (ended_beside number (watch_of number s.watches.live))
  next_by x (acting none by) = ap (λ (m : Checked (Answer × Standing)). (next_state s m).transactions) (by s) ∙ same_next x (act_unwatched s.transactions x)

  -- what stands behind a statement beside the watches
  pub next_beside : (x : StatementView) → (next_state s (act s x)).transactions ≡ next_unwatched s.transactions (act_unwatched s.transactions x)
  next_beside x = next_by x (kind_of x)

  -- what neither watches nor ends a watch acts beside them
  acts_by : (x : StatementView) → Kind x → WatchesNothing x → act s x ≡ acted_by s x
  acts_by x (watching name is) none = let clash : true ≡ false = ap is_of_watches (sym is) ∙ none in cc
  acts_by x (unwatching number is) none = let clash : true ≡ false = ap is_of_watches (sym is) ∙ none in cc
  acts_by x (acting not by) none = by s

  pub text_beside : (x : StatementView) → WatchesNothing x → text_of (act s x) ≡ text_unwatched (act_unwatched s.transactions x)
  text_beside x none = ap text_of (acts_by x (kind_of x) none) ∙ same_text x (act_unwatched s.transactions x)

  pub answer_beside : (x : StatementView) (answer : Answer × Standing) → WatchesNothing x → act s x ≡ Ok answer → act_unwatched s.transactions x ≡ Ok (answer.0, answer.1.transactions)
  answer_beside x answer none is = same_answer x (act_unwatched s.transactions x) answer (sym (acts_by x (kind_of x) none) ∙ is)

-- ---- all of them

pub stands_beside : StandsBeside
unfolding state_after state_unwatched
stands_beside s [] = refl
stands_beside s (x ∷ xs) = stands_beside (next_state s (act s x)) xs ∙ ap (λ (t : TransactionsStanding). state_unwatched t xs) (next_beside s x)

-- one statement more
one_more : (b : Bool) (ts us : List (List ℕ)) (t u : List ℕ) → ts ≡ us → (b ≡ false → t ≡ u) → cond b ts (t ∷ ts) ≡ cond b us (u ∷ us)
one_more true ts us t u rest text = rest
one_more false ts us t u rest text = λ i. text refl i ∷ rest i

pub others_beside : OthersAreAnswered
unfolding others replies replies_unwatched
others_beside s [] = refl
others_beside s (x ∷ xs) =
    one_more (is_of_watches x) _ _ _ _
    (others_beside (next_state s (act s x)) xs ∙ ap (λ (t : TransactionsStanding). others xs (replies_unwatched t xs)) (next_beside s x))
    (text_beside s x)

pub unwatched_beside : UnwatchedAreAnswered
unfolding replies replies_unwatched
unwatched_beside s [] none = refl
unwatched_beside s (x ∷ xs) none =
    let rest = unwatched_beside (next_state s (act s x)) xs none.1 ∙ ap (λ (t : TransactionsStanding). replies_unwatched t xs) (next_beside s x) in
    λ i. text_beside s x none.0 i ∷ rest i
