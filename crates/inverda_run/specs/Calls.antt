-- What the inner calls give.
use Rattle.std.specs.Prelude.{◌≡◌, ◌⊎◌, ◌≤◌, ◌<◌, ℕ, List, length, Option, Some, None, codes, Result, Ok, Err, ⊤}
use Rattle.std.specs.Io.KnownBytes.{Appends}
use Rattle.outside.specs.Causes.{Rose}
use Rattle.outside.specs.FileTold.{IsMissing, ToldAs}
use Rattle.change_feed.specs.Watchers.{WatcherState}
use Rattle.watch_laws.specs.SessionLawsSessions.{HasCounts}
use Rattle.generated_run.specs.Transactions.{Kept as Transactions}
use Rattle.generated_run.specs.Standing.{Standing}
use Rattle.generated_run.specs.TransactionsKept.{kept_in}
use Rattle.generated_run.specs.TransactionsCalls.{standing_of}
use Rattle.generated_run.specs.EngineCoreTexts.{line}
use Rattle.dump_formats.specs.Texts.{AreSpelled}
use Rattle.script_generator.specs.Summary.{summary_lines}
use Rattle.generated_run.specs.Summed.{generated_end, generated_summary}
use Rattle.generated_run.specs.Statuses.{Passed, PutsFront, Stopped, Unread, limit}
use Rattle.generated_run.specs.End.{End as ScriptEnd}
use Rattle.generated_run.specs.End.TheVariants as script
use Rattle.inverda_run.specs.Files.{IsLonger}
use Rattle.dump_formats.specs.Stands.{IsDumpOf}
use Rattle.dump_formats.specs.declared.loaded.Loaded.{Loaded as Kept}
use Rattle.inverda_run.specs.Starts.{IsDumpText, Loaded, StartsBy, Told, begun_from}
use Rattle.inverda_run.specs.Statuses.{LongDump, LongLoad, NoDump, OfStart, Ran, RefusedDump, SayNothing, UnreadLoad, UnwrittenDump, Untouched}
use Rattle.inverda_run.specs.Decided.{Early}
use Rattle.inverda_run.specs.declared.begin.NotBegun.{NotBegun}
use Rattle.inverda_run.specs.declared.begin.NotBegun.TheVariants as begins
use Rattle.inverda_run.specs.declared.end.End.{End}
use Rattle.inverda_run.specs.declared.end.End.TheVariants as end

-- ---- the start

-- the file holds bytes within the limit that are no dump
pub record HoldsNoDump (file : Option (Option (List ℕ))) : Type 0 where
  pub bytes : List ℕ
  pub within : length bytes ≤ limit
  pub holds : ToldAs file bytes
  pub none : NoDump bytes

-- what a run starts with: its operators are spelled, and its counts are those beside its graph
pub record IsStart (transactions : Transactions) : Type 0 where
  pub spelled : AreSpelled (kept_in transactions).graph.edges
  pub counted : HasCounts (standing_of transactions).sessions

-- what a run starts with, or why there is nothing: the file that is loaded holds no dump, is too long, or couldn't be read
abbrev pub Begins : Told → Option (List ℕ) → ℕ → ℕ → ℕ → Result Transactions NotBegun → Type 0
Begins told load max_id was is (Ok transactions) = StartsBy told load max_id (standing_of transactions) × IsStart transactions × (is ≡ was)
Begins told load max_id was is (Err begins.Memory) = is ≡ was
Begins told load max_id was is (Err begins.Refused) = (name : List ℕ) × (load ≡ Some name) × HoldsNoDump (told name) × (is ≡ was)
Begins told load max_id was is (Err begins.TooLong) = (name : List ℕ) × (load ≡ Some name) × IsLonger limit (told name) × (is ≡ was)
Begins told load max_id was is (Err begins.Fault) = (name : List ℕ) × (load ≡ Some name) × Rose was is

-- what is read from bytes stands for them
pub record IsLoaded (bytes : List ℕ) (max_id : ℕ) (transactions : Transactions) : Type 0 where
  pub kept : Kept
  pub dump : IsDumpOf bytes kept
  pub limit_is : kept.database.ids.limit ≡ max_id
  pub state : standing_of transactions ≡ begun_from kept

-- what a run starts with over the database whose dump the bytes are, or that they are none
abbrev pub LoadsSessions : List ℕ → ℕ → Result Transactions NotBegun → Type 0
LoadsSessions bytes max_id (Ok transactions) = IsLoaded bytes max_id transactions × IsStart transactions
LoadsSessions bytes max_id (Err begins.Memory) = ⊤
LoadsSessions bytes max_id (Err begins.Refused) = NoDump bytes
LoadsSessions bytes max_id (Err _) = ⊥

-- what a run starts with over the database whose dump the file holds, or why there is nothing
abbrev pub BeginsLoaded : Option (Option (List ℕ)) → ℕ → ℕ → ℕ → Result Transactions NotBegun → Type 0
BeginsLoaded file max_id was is (Ok transactions) = Loaded file max_id (standing_of transactions) × IsStart transactions × (is ≡ was)
BeginsLoaded file max_id was is (Err begins.Memory) = is ≡ was
BeginsLoaded file max_id was is (Err begins.Refused) = HoldsNoDump file × (is ≡ was)
BeginsLoaded file max_id was is (Err begins.TooLong) = IsLonger limit file × (is ≡ was)
BeginsLoaded file max_id was is (Err begins.Fault) = Rose was is

-- the count of missing names stays, or it is one more and a file is loaded of which it isn't told that it is there
abbrev pub MissesLoad : Told → Option (List ℕ) → ℕ → ℕ → Type 0
MissesLoad told load was is = (is ≡ was) ⊎ ((name : List ℕ) × (load ≡ Some name) × IsMissing (told name) × Rose was is)

-- ---- the last line

-- the line was put, or a front of it where the sink failed
abbrev pub PutsLast : End → List ℕ → Option (List ℕ) → Option (List ℕ) → ℕ → ℕ → End → Type 0
PutsLast due text held held' was is result =
    ((result ≡ due) × Appends held held' text × (is ≡ was)) ⊎ ((result ≡ end.Unwritten) × Rose was is × PutsFront held held' text)

-- ---- the end

-- how a run ends that has carried out its script
abbrev pub ended : ScriptEnd → End
ended script.Done = end.Done
ended script.Memory = end.Memory
ended script.Syntax = end.Syntax
ended script.Unread = end.Unread
ended script.Unwritten = end.Unwritten
ended script.TooLong = end.LongScript

-- the dump of where a run stands has more bytes than the limit
pub record IsLongDump (to : Standing) : Type 0 where
  pub text : List ℕ
  pub dump : IsDumpText to text
  pub above : limit < length text

-- the file holds the dump of where a run stands, within the limit
pub record HoldsDump (file : Option (Option (List ℕ))) (to : Standing) : Type 0 where
  pub text : List ℕ
  pub dump : IsDumpText to text
  pub within : length text ≤ limit
  pub holds : ToldAs file text

-- how a run ends that dumps where it stands to a file
abbrev pub DumpsTo : Standing → Option (Option (List ℕ)) → Option (List ℕ) → Option (List ℕ) → ℕ → ℕ → ℕ → ℕ → End → Type 0
DumpsTo to file held held' put put' filed filed' end.Done = HoldsDump file to × (held' ≡ held) × (put' ≡ put) × (filed' ≡ filed)
DumpsTo to file held held' put put' filed filed' end.Memory = (held' ≡ held) × (put' ≡ put) × (filed' ≡ filed)
DumpsTo to file held held' put put' filed filed' end.LongDump = IsLongDump to × Appends held held' (line (codes "too long")) × (put' ≡ put) × (filed' ≡ filed)
DumpsTo to file held held' put put' filed filed' end.UnwrittenDump = Rose filed filed' × Appends held held' (line (codes "file fault")) × (put' ≡ put)
DumpsTo to file held held' put put' filed filed' end.Unwritten =
    Rose put put' × ((IsLongDump to × PutsFront held held' (line (codes "too long")) × (filed' ≡ filed))
    ⊎ (Rose filed filed' × PutsFront held held' (line (codes "file fault"))))
DumpsTo to file held held' put put' filed filed' _ = ⊥

-- how a run ends that has carried out its script
abbrev pub Finishes : Standing → Option (List ℕ) → Told → Option (List ℕ) → Option (List ℕ) → ℕ → ℕ → ℕ → ℕ → End → Type 0
Finishes to None told held held' put put' filed filed' e = (e ≡ end.Done) × (held' ≡ held) × (put' ≡ put) × (filed' ≡ filed)
Finishes to (Some name) told held held' put put' filed filed' e = DumpsTo to (told name) held held' put put' filed filed' e

-- how a run ends that carries out the generated script: memory ran out and nothing was put, or a front of the summary was put, or all of
-- it and then what a run puts that has carried out its script
abbrev pub EndsGenerated : Standing → ℕ → Option (List ℕ) → Told → Option (List ℕ) → Option (List ℕ) → ℕ → ℕ → ℕ → ℕ → End → Type 0
EndsGenerated from n dump told held held' put put' filed filed' e =
    ((e ≡ end.Memory) × (held' ≡ held) × (put' ≡ put) × (filed' ≡ filed))
    ⊎ ((e ≡ end.Unwritten) × Rose put put' × PutsFront held held' (summary_lines (generated_summary from n)) × (filed' ≡ filed))
    ⊎ ((between : Option (List ℕ)) × Appends held between (summary_lines (generated_summary from n))
    × ((generated_end from n).sessions.laid.database.limit ≡ from.sessions.laid.database.limit)
    × Finishes (generated_end from n) dump told between held' put put' filed filed' e)

-- a file is as it was, or it is the one that is written, and the run is done or a call on the files failed
abbrev pub WritesBut : List ℕ → Told → Told → ℕ → ℕ → End → List ℕ → Type 0
WritesBut name told told' filed filed' e file = (told' file ≡ told file) ⊎ ((file ≡ name) × ((e ≡ end.Done) ⊎ Rose filed filed'))

abbrev pub WritesTo : Option (List ℕ) → Told → Told → ℕ → ℕ → End → List ℕ → Type 0
WritesTo dump told told' filed filed' e file = (told' file ≡ told file) ⊎ ((dump ≡ Some file) × ((e ≡ end.Done) ⊎ Rose filed filed'))

-- what a run leaves: of the files what is told, of the source what is left, of the sink its bytes, and their counts of faults, before and
-- now
abbrev pub Ends : List (List ℕ) → Told → Told → List WatcherState → Option (List ℕ) → Option (List ℕ) → ℕ → ℕ → Option (List ℕ) → Option (List ℕ) → ℕ → ℕ → ℕ → ℕ → End → Type 0
Ends words told told' waiting left left' read read' held held' put put' filed filed' end.Done = Ran words told told' waiting left left' held held' × (read' ≡ read) × (filed' ≡ filed)
Ends words told told' waiting left left' read read' held held' put put' filed filed' end.Memory = Early words told waiting left left' read read' held held' filed filed' × (filed' ≡ filed)
Ends words told told' waiting left left' read read' held held' put put' filed filed' end.BadWords =
    SayNothing words × Appends held held' (line (codes "bad words")) × Untouched left left' read read' × (filed' ≡ filed)
Ends words told told' waiting left left' read read' held held' put put' filed filed' end.Syntax = OfStart words told waiting (λ from. Stopped from left left' read read' held held') × (filed' ≡ filed)
Ends words told told' waiting left left' read read' held held' put put' filed filed' end.Refused = RefusedDump words told held held' × Untouched left left' read read' × (filed' ≡ filed)
Ends words told told' waiting left left' read read' held held' put put' filed filed' end.Unread = OfStart words told waiting (λ from. Unread from left left' read read' held held') × (filed' ≡ filed)
Ends words told told' waiting left left' read read' held held' put put' filed filed' end.Unwritten = Rose put put' × Early words told waiting left left' read read' held held' filed filed'
Ends words told told' waiting left left' read read' held held' put put' filed filed' end.LongScript = OfStart words told waiting (λ from. Passed from left left' read read' held held') × (filed' ≡ filed)
Ends words told told' waiting left left' read read' held held' put put' filed filed' end.LongLoad = LongLoad words told left left' read read' held held' × (filed' ≡ filed)
Ends words told told' waiting left left' read read' held held' put put' filed filed' end.LongDump = LongDump words told waiting left left' read read' held held' × (filed' ≡ filed)
Ends words told told' waiting left left' read read' held held' put put' filed filed' end.UnreadLoad = Rose filed filed' × UnreadLoad words left left' read read' held held'
Ends words told told' waiting left left' read read' held held' put put' filed filed' end.UnwrittenDump = Rose filed filed' × UnwrittenDump words told waiting left left' read read' held held'

-- the run counts no fault of the sink where it isn't the sink that failed
abbrev pub EndStays : ℕ → ℕ → End → Type 0
EndStays was is end.Unwritten = ⊤
EndStays was is _ = is ≡ was
