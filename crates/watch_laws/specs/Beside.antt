-- Watches stand beside the data, sessions and transactions, and change nothing of them.
use Rattle.std.specs.Prelude.{◌≡◌, ℕ, Bool, true, false, cond, List, [], ◌∷◌}
use Rattle.statements.specs.Views.{StatementView, Watch, Unwatch}
use Rattle.version_graph.specs.Sets.{Each}
use Rattle.engine_feeds.specs.EngineTransactionsReplies.{replies as replies_unwatched, state_after as state_unwatched}
use Rattle.engine_feeds.specs.Replies.{replies, state_after}
use Rattle.engine_feeds.specs.Standing.{Standing}

-- whether it is WATCH or UNWATCH
abbrev pub is_of_watches : StatementView → Bool
is_of_watches (Watch name) = true
is_of_watches (Unwatch number) = true
is_of_watches _ = false

-- it is neither
abbrev pub WatchesNothing : StatementView → Type 0
WatchesNothing statement = is_of_watches statement ≡ false

-- of the replies to these statements, those to others than WATCH and UNWATCH
unfoldable pub others : List StatementView → List (List ℕ) → List (List ℕ)
others [] texts = []
others (statement ∷ statements) [] = []
others (statement ∷ statements) (text ∷ texts) = cond (is_of_watches statement) (others statements texts) (text ∷ others statements texts)

-- WATCHES CHANGE NOTHING ELSE: behind a script the data, the sessions and the transactions are those behind it without watches ..
abbrev pub StandsBeside : Type 0
StandsBeside = (s : Standing) (statements : List StatementView) → (state_after s statements).transactions ≡ state_unwatched s.transactions statements

-- .. and all statements but WATCH and UNWATCH are answered the same
abbrev pub OthersAreAnswered : Type 0
OthersAreAnswered = (s : Standing) (statements : List StatementView) → others statements (replies s statements) ≡ others statements (replies_unwatched s.transactions statements)

-- so a script without these two is answered as without watches
abbrev pub UnwatchedAreAnswered : Type 0
UnwatchedAreAnswered = (s : Standing) (statements : List StatementView) → Each WatchesNothing statements → replies s statements ≡ replies_unwatched s.transactions statements
