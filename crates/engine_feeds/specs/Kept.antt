-- What is kept: the transactions over their engine, and the watches.
use Rattle.op_any.specs.Operators.{AnyView}
use Rattle.db_state.specs.declared.parts.Parts.{Parts}
use Rattle.change_feed.specs.Watches.{WatchesState}
use Rattle.engine_transactions.specs.Calls.{standing_of as standing_beneath, IsIdle}
use Rattle.engine_transactions.specs.Kept.{kept_in as kept_beneath}
use Rattle.engine_transactions.specs.declared.kept.Kept.{Kept as Transactions}
use Rattle.version_notes.specs.Mirrors.{AreQuiet}

pub record WatchedView : Type 0 where
  pub transactions : Transactions
  pub watches : WatchesState

-- the database that a value keeps, with its layout
abbrev pub kept_in : WatchedView → Parts AnyView
kept_in it = kept_beneath it.transactions

abbrev pub view_of : Transactions → WatchesState → WatchedView
view_of kept watches = record { transactions = kept; watches = watches }

-- between events nothing is unsettled, and each live watch shows its version's tables
pub record AreKept (kept : Transactions) (watches : WatchesState) : Type 0 where
  pub idle : IsIdle kept.executing
  pub quiet : AreQuiet (standing_beneath kept).sessions.laid.database watches
