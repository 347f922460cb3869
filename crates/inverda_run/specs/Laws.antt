-- Two runs, the second from the dump of the first, are one.
use Rattle.std.specs.Prelude.{◌≡◌, ◌++◌, ◌≤◌, ℕ, List, [], length, Option, Some}
use Rattle.std.specs.Io.KnownBytes.{Appends}
use Rattle.std.specs.List.{All}
use Rattle.statements.specs.Views.{StatementView}
use Rattle.version_graph.specs.Sets.{Each}
use Rattle.change_feed.specs.Watchers.{WatcherState}
use Rattle.change_feed.specs.Watches.{WatchesState}
use Rattle.generated_run.specs.Standing.{Standing}
use Rattle.generated_run.specs.WatchedStanding.{Standing as WatchedStanding}
use Rattle.generated_run.specs.Begun.{DifferInSessions, begun_again}
use Rattle.watch_laws.specs.SessionLawsSessions.{IsNamed}
use Rattle.generated_run.specs.WatchedOutput.{out, state_after}
use Rattle.generated_run.specs.Statuses.{Done, limit}
use Rattle.inverda_run.specs.Starts.{IsDumpText, Loaded, Told}
use Rattle.watch_laws.specs.ScriptLawsSaid.{ActsAtOnce}
use Rattle.watch_laws.specs.Beside.{WatchesNothing}
use Rattle.watch_laws.specs.Said.{again_with}
use Rattle.inverda_run.specs.Decided.{Behind}
use Rattle.inverda_run.specs.Statuses.{Ran}

-- WHEREVER A RUN STANDS IT HAS A DUMP, and so it is decided what a run puts behind its replies, whatever the words say of a dump
abbrev pub EachStateHasADump : Type 0
EachStateHasADump = (dump : Option (List ℕ)) (to : Standing) → (last : List ℕ) × Behind dump to last

-- a file holds the dump of one start, for a greatest identifier
abbrev pub OneStart : Type 0
OneStart = (file : List ℕ) (max_id : ℕ) (s t : Standing) → Loaded (Some (Some file)) max_id s → Loaded (Some (Some file)) max_id t → s ≡ t

-- what a run dumps, within the limit, is loaded as where that run stood, where both have the same greatest identifier: the second one
-- begins there, with no version in use, no history and no open transaction
abbrev pub LoadsTheDumped : Type 0
LoadsTheDumped = (s t : Standing) (text : List ℕ) → IsDumpText s text → length text ≤ limit → Loaded (Some (Some text)) s.sessions.laid.database.limit t → t ≡ begun_again s

-- TWO RUNS ARE ONE: the replies to the statements of both are those of one run of both scripts, and so is the state behind them
abbrev pub TwoRuns : Type 0
TwoRuns = (s : WatchedStanding) (first second : List StatementView)
    → (out s (first ++ second) ≡ out s first ++ out (state_after s first) second) × (state_after s (first ++ second) ≡ state_after (state_after s first) second)

-- where no transaction is open, statements that name their versions and are none of transactions or watches are answered over what was
-- loaded as without the dump between, whoever watches there
abbrev pub BeginsAgain : Type 0
BeginsAgain = (s : WatchedStanding) (watches : WatchesState) (statements : List StatementView) → s.transactions.opens ≡ [] → All IsNamed statements → Each ActsAtOnce statements
    → Each WatchesNothing statements
    → (out (again_with watches s) statements ≡ out s statements)
    × DifferInSessions (state_after (again_with watches s) statements).transactions (state_after s statements).transactions

-- IN ONE SENTENCE: a run was done that dumped to a file, and then one that loaded the file, both with the same greatest identifier, and went
-- on behind what the first had put. Where no transaction was open behind the first, and the statements of the second name their versions and
-- are none of transactions or watches, the two have put what one run of both scripts puts, advice too, and have left the same data, the same
-- counts and the same pending, whatever is watched in the first, and whatever watchers were handed in.
abbrev pub RunsAreOne : Type 0
RunsAreOne = (words words' : List (List ℕ)) (told mid told' : Told) (waiting waiting' : List WatcherState) (left left' more more' held between held' : Option (List ℕ))
    → (first : Ran words told mid waiting left left' held between) (second : Ran words' mid told' waiting' more more' between held')
    → (name file : List ℕ) → first.asked.dump ≡ Some name → second.asked.load ≡ Some name → mid name ≡ Some (Some file)
    → second.asked.max_id ≡ first.asked.max_id
    → (one : Done first.from first.to left left' held between) (other : Done second.from second.to more more' between held')
    → first.to.transactions.opens ≡ [] → All IsNamed other.statements → Each ActsAtOnce other.statements → Each WatchesNothing other.statements
    → Appends held held' (out first.from (one.statements ++ other.statements))
    × DifferInSessions second.to.transactions (state_after first.from (one.statements ++ other.statements)).transactions
