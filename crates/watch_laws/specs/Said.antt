-- Scripts that don't depend on what stood in use before them, nor on who watches.
use Rattle.std.specs.Prelude.{◌≡◌, List, []}
use Rattle.statements.specs.Views.{StatementView}
use Rattle.version_graph.specs.Sets.{Each}
use Rattle.change_feed.specs.Watches.{WatchesState}
use Rattle.engine_feeds.specs.Begun.{DifferInSessions, begun_again}
use Rattle.engine_feeds.specs.Replies.{replies, state_after}
use Rattle.engine_feeds.specs.Standing.{Standing}
use Rattle.script_laws.specs.SessionLawsSaid.{AreSaid, nothing_said}
use Rattle.watch_laws.specs.Beside.{WatchesNothing}

-- from the beginning over what stands, with these watches
abbrev pub again_with : WatchesState → Standing → Standing
again_with watches s = record { transactions = begun_again s.transactions; watches = watches }

-- where no transaction is open, statements that name their versions or stand behind a USE, that begin no transaction, watch nothing and end
-- no watch, are answered as from the beginning over what stands, whoever watches there, and leave the same but for sessions, history and watches
abbrev pub SaidNeedNoSession : Type 0
SaidNeedNoSession = (s : Standing) (watches : WatchesState) (statements : List StatementView) → s.transactions.opens ≡ []
    → AreSaid (begun_again s.transactions).sessions nothing_said statements → Each WatchesNothing statements
    → (replies (again_with watches s) statements ≡ replies s statements)
    × DifferInSessions (state_after (again_with watches s) statements).transactions (state_after s statements).transactions
