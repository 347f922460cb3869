-- What moves change for their script, with watches: no reply but their own and those of SHOW LAYOUT, and nothing that a watcher is told.
use Rattle.std.specs.Prelude.{◌≡◌, ℕ, List, Option}
use Rattle.std.specs.Io.KnownBytes.{Appends, Consumes}
use Rattle.statements.specs.Views.{StatementView}
use Rattle.bidel_script.specs.Script.{IsScript}
use Rattle.change_feed.specs.Feeds.{AllQuiet}
use Rattle.change_feed.specs.Watches.{AllFresh, WatchesState}
use Rattle.script_laws.specs.Moves.{heard, with_layout as laid_out, without_moves}
use Rattle.engine_feeds.specs.Replies.{joined, replies, state_after}
use Rattle.engine_feeds.specs.Standing.{Standing}

-- between events: no live watch is ready for a note, and the watchers that wait were told nothing
pub record AreIdle (w : WatchesState) : Type 0 where
  pub live : AllQuiet w.live
  pub waiting : AllFresh w.waiting

-- the same data, sessions, transactions and watches, under another layout and with another move pending
abbrev pub with_layout : Standing → List ℕ → List ℕ → Standing
with_layout s layout pending = record s { transactions = laid_out s.transactions layout pending }

-- NOBODY NOTICES: with every MATERIALIZE and every STEP struck out all statements but SHOW LAYOUT, WATCH and UNWATCH among them, are answered
-- the same, from any layout of the same data on, whatever is pending ..
abbrev pub MovesChangeNoReply : Type 0
MovesChangeNoReply = (s : Standing) (layout pending : List ℕ) (statements : List StatementView) → AreIdle s.watches
    → heard statements (replies s statements) ≡ heard (without_moves statements) (replies (with_layout s layout pending) (without_moves statements))

-- .. and behind them the same watches live, whose watchers were told and show the same
abbrev pub MovesTellNothing : Type 0
MovesTellNothing = (s : Standing) (layout pending : List ℕ) (statements : List StatementView) → AreIdle s.watches
    → (state_after s statements).watches ≡ (state_after (with_layout s layout pending) (without_moves statements)).watches

-- the source gave a script, and the sink was given the replies to its statements; with every MATERIALIZE and every STEP struck out
-- all statements but SHOW LAYOUT have the same replies
pub record MovesUnseen (from : Standing) (left left' held held' : Option (List ℕ)) : Type 0 where
  pub bytes : List ℕ
  pub statements : List StatementView
  pub taken : Consumes left left' bytes
  pub script : IsScript bytes statements
  pub put : Appends held held' (joined (replies from statements))
  pub same : heard statements (replies from statements) ≡ heard (without_moves statements) (replies from (without_moves statements))
