-- Where the statements of a script stand, with watches.
use Rattle.change_feed.specs.Watches.{WatchesState, no_watches}
use Rattle.engine_transactions.specs.Standing.{Standing as TransactionsStanding}

pub record Standing : Type 0 where
  -- the data with their layout, sessions, and transactions
  pub transactions : TransactionsStanding
  -- the watchers that wait, the last watch number given, and the live watches with what their watchers were told
  pub watches : WatchesState

-- without any watcher
abbrev pub unwatched : TransactionsStanding → Standing
unwatched transactions = record { transactions = transactions; watches = no_watches }
