-- What runs keep throughout their scripts, and second scripts that say USE.
use Rattle.std.specs.Prelude.{◌≡◌, ◌++◌, ℕ, Bool, List, [], ◌∷◌, Option, Some, Ok}
use Rattle.std.specs.Io.KnownBytes.{Appends}
use Rattle.statements.specs.Views.{StatementView}
use Rattle.version_graph.specs.Sets.{Each}
use Rattle.change_feed.specs.Watchers.{WatcherState}
use Rattle.bidel_script.specs.Script.{Comes, Outcome}
use Rattle.run_words.specs.Words.{Asked}
use Rattle.generated_run.specs.WatchedAct.{act}
use Rattle.generated_run.specs.Answer.{Answer}
use Rattle.generated_run.specs.WatchedStanding.{Standing as WatchedStanding}
use Rattle.generated_run.specs.Begun.{DifferInSessions}
use Rattle.generated_run.specs.Output.{replies as replies_unwatched}
use Rattle.generated_run.specs.WatchedOutput.{out, replies, state_after}
use Rattle.generated_run.specs.Statuses.{Done}
use Rattle.watch_laws.specs.SessionLawsSaid.{AreSaid, nothing_said}
use Rattle.watch_laws.specs.ScriptLawsKept.{IsKeptAt}
use Rattle.watch_laws.specs.Written.{IsOrdinary}
use Rattle.transaction_laws.specs.Serial.{OneAfterTheOther, end_of}
use Rattle.watch_laws.specs.Beside.{WatchesNothing, others}
use Rattle.inverda_run.specs.Starts.{Told}
use Rattle.inverda_run.specs.Statuses.{Ran, Starts}

-- a run starts from a state as a database may have it, be it empty or loaded, and each state that its script reaches is one, whatever is watched
abbrev pub RunsStayKept : Type 0
RunsStayKept = (words : List (List ℕ)) (told : Told) (waiting : List WatcherState) (asked : Asked) (from : WatchedStanding) → Starts words told waiting asked from
    → (bytes : List ℕ) (ended : Bool) (statements : List StatementView) (outcome : Outcome) → Comes bytes ended statements outcome
    → IsKeptAt from.transactions × IsKeptAt (state_after from statements).transactions

-- EACH VERSION IS AN ORDINARY DATABASE THROUGHOUT A RUN: each statement of its script that is an answered write, and each kept write at its
-- answered COMMIT, leaves its table with the rows that it says, and no other table of its version, and no version, has changed, whatever is
-- watched
abbrev pub RunsAreOrdinary : Type 0
RunsAreOrdinary = (words : List (List ℕ)) (told : Told) (waiting : List WatcherState) (asked : Asked) (from : WatchedStanding) → Starts words told waiting asked from
    → (bytes : List ℕ) (ended : Bool) (statements : List StatementView) (outcome : Outcome) → Comes bytes ended statements outcome
    → (before after : List StatementView) (statement : StatementView) (answer : Answer × WatchedStanding) → statements ≡ before ++ statement ∷ after
    → act (state_after from before) statement ≡ Ok answer → IsOrdinary (state_after from before).transactions statement (answer.0, answer.1.transactions)

-- TWO RUNS ARE ONE, also where each statement of the second on a table names its version or stands behind an answered USE of its session in
-- the second script, and is none of transactions or watches: with no transaction open behind it the first run dumped to a file that the second
-- loaded, both with the same greatest identifier, and the second went on behind what the first had put. Then they have put what one run of both
-- scripts puts, and have left the same data, counts and pending, whatever is watched in the first, and whatever watchers were handed in.
abbrev pub SaidRunsAreOne : Type 0
SaidRunsAreOne = (words words' : List (List ℕ)) (told mid told' : Told) (waiting waiting' : List WatcherState) (left left' more more' held between held' : Option (List ℕ))
    → (first : Ran words told mid waiting left left' held between) (second : Ran words' mid told' waiting' more more' between held')
    → (name file : List ℕ) → first.asked.dump ≡ Some name → second.asked.load ≡ Some name → mid name ≡ Some (Some file)
    → second.asked.max_id ≡ first.asked.max_id
    → (one : Done first.from first.to left left' held between) (other : Done second.from second.to more more' between held')
    → first.to.transactions.opens ≡ [] → AreSaid second.from.transactions.sessions nothing_said other.statements → Each WatchesNothing other.statements
    → Appends held held' (out first.from (one.statements ++ other.statements))
    × DifferInSessions second.to.transactions (state_after first.from (one.statements ++ other.statements)).transactions

-- COMMITTED TRANSACTIONS ANSWER AS ONE AFTER THE OTHER: in the second script of a run each accepted COMMIT is replaced by the SELECTs of its
-- transaction and then its writes, with nothing between them, and what stands in other transactions is struck out. Run without
-- transactions, from where the run starts, it has the answers that the run gave, and leads to the same data, accesses and versions in use,
-- whatever is watched: all statements but WATCH and UNWATCH are answered in the run as where nothing is watched, and lead to the same.
abbrev pub RunsAreSerial : Type 0
RunsAreSerial = (words : List (List ℕ)) (told : Told) (waiting : List WatcherState) (asked : Asked) (from : WatchedStanding) → Starts words told waiting asked from
    → (statements : List StatementView) → OneAfterTheOther from.transactions statements
    × (end_of from.transactions statements ≡ (state_after from statements).transactions)
    × (others statements (replies from statements) ≡ others statements (replies_unwatched from.transactions statements))
