-- What words, files and the source tell decides a run, where no call fails and memory suffices.
use Rattle.std.specs.Prelude.{◌≡◌, ◌++◌, ◌≤◌, ◌<◌, ◌⊎◌, ℕ, nat_le, List, [], take, length, Option, Some, None, codes, ⊤}
use Rattle.outside.specs.Causes.{Rose}
use Rattle.change_feed.specs.Watchers.{WatcherState}
use Rattle.bidel_script.specs.Script.{Outcome, Over}
use Rattle.generated_run.specs.Standing.{Standing}
use Rattle.generated_run.specs.WatchedStanding.{Standing as WatchedStanding}
use Rattle.generated_run.specs.Begun.{empty_standing}
use Rattle.generated_run.specs.EngineCoreTexts.{line}
use Rattle.run_words.specs.Words.{Asked, Says}
use Rattle.script_generator.specs.Summary.{summary_lines}
use Rattle.generated_run.specs.WatchedOutput.{state_after}
use Rattle.generated_run.specs.Statuses.{BegunTaken, Had, PutsFront, WritesScript, limit}
use Rattle.generated_run.specs.Summed.{generated_end, generated_summary}
use Rattle.inverda_run.specs.Starts.{Told, dump_of}
use Rattle.inverda_run.specs.Statuses.{Carried, Loads, NoDump, OfStart, SayNothing, Starts, Untouched}

-- the file that is loaded is told, where there is one
abbrev pub IsTold : Told → Option (List ℕ) → Type 0
IsTold told None = ⊤
IsTold told (Some name) = (file : List ℕ) × (told name ≡ Some (Some file))

-- a run of the source's script starts from where it is told, and this comes of the bytes that the source told
pub record Told' (words : List (List ℕ)) (told : Told) (waiting : List WatcherState) (left : Option (List ℕ)) (outcome : Outcome) : Type 0 where
  pub asked : Asked
  pub from : WatchedStanding
  pub starts : Starts words told waiting asked from
  pub source : asked.generate ≡ None
  pub load : IsTold told asked.load
  pub had : Had left outcome

-- the dump at the end is within the limit, where there is one
abbrev pub DumpFits : Option (List ℕ) → Standing → Type 0
DumpFits None to = ⊤
DumpFits (Some name) to = length (dump_of to) ≤ limit

-- a script within the limits, and a dump within them
pub record ToldWhole (words : List (List ℕ)) (told : Told) (waiting : List WatcherState) (left : Option (List ℕ)) : Type 0 where
  pub script : Told' words told waiting left Over
  pub fits : (from : WatchedStanding) → Starts words told waiting script.asked from → DumpFits script.asked.dump (state_after from script.had.statements).transactions

-- the generated script, and a dump within the limits
pub record ToldGenerated (words : List (List ℕ)) : Type 0 where
  pub asked : Asked
  pub says : Says words asked
  pub n : ℕ
  pub generate : asked.generate ≡ Some n
  pub fits : DumpFits asked.dump (generated_end (empty_standing asked.max_id) n)

-- the file that the words load is told, and its bytes are no dump
pub record ToldNoDump (words : List (List ℕ)) (told : Told) : Type 0 where
  pub name : List ℕ
  pub loads : Loads words name
  pub file : List ℕ
  pub holds : told name ≡ Some (Some file)
  pub within : length file ≤ limit
  pub none : NoDump file

-- the file that the words load is told, and it is longer than the limit
pub record ToldLonger (words : List (List ℕ)) (told : Told) : Type 0 where
  pub name : List ℕ
  pub loads : Loads words name
  pub file : List ℕ
  pub holds : told name ≡ Some (Some file)
  pub above : limit < length file

-- ---- what is put

-- what stands behind the replies of a script, or its summary: nothing, or that the dump is too long
abbrev pub Behind : Option (List ℕ) → Standing → List ℕ → Type 0
Behind None to last = last ≡ []
Behind (Some name) to last = ((length (dump_of to) ≤ limit) × (last ≡ [])) ⊎ ((limit < length (dump_of to)) × (last ≡ line (codes "too long")))

-- what a run of the script puts, from a start that is told
pub record PutsScript (words : List (List ℕ)) (told : Told) (waiting : List WatcherState) (left : Option (List ℕ)) (text : List ℕ) : Type 0 where
  pub asked : Asked
  pub from : WatchedStanding
  pub starts : Starts words told waiting asked from
  pub none : asked.generate ≡ None
  pub load : IsTold told asked.load
  pub bytes : List ℕ
  pub source : left ≡ Some bytes
  pub script : List ℕ
  pub writes : WritesScript from (take limit bytes) (nat_le (length bytes) limit) (line (codes "too long")) script
  pub last : List ℕ
  pub behind : writes.outcome ≡ Over → Behind asked.dump (state_after from writes.statements).transactions last
  pub other : (writes.outcome ≡ Over → ⊥) → last ≡ []
  pub text_is : text ≡ script ++ last

-- what a run of the generated script puts
pub record PutsSummary (words : List (List ℕ)) (text : List ℕ) : Type 0 where
  pub asked : Asked
  pub says : Says words asked
  pub n : ℕ
  pub generate : asked.generate ≡ Some n
  pub last : List ℕ
  pub behind : Behind asked.dump (generated_end (empty_standing asked.max_id) n) last
  pub text_is : text ≡ summary_lines (generated_summary (empty_standing asked.max_id) n) ++ last

-- what a run puts where no call fails and memory suffices
pub data Puts (words : List (List ℕ)) (told : Told) (waiting : List WatcherState) (left : Option (List ℕ)) (text : List ℕ) : Type 0 where
  bad : SayNothing words → text ≡ line (codes "bad words") → Puts words told waiting left text
  refused : ToldNoDump words told → text ≡ line (codes "dump refused") → Puts words told waiting left text
  longer : ToldLonger words told → text ≡ line (codes "too long") → Puts words told waiting left text
  script : PutsScript words told waiting left text → Puts words told waiting left text
  summary : PutsSummary words text → Puts words told waiting left text

-- a front of it was put
abbrev pub Begun : List (List ℕ) → Told → List WatcherState → Option (List ℕ) → Option (List ℕ) → Option (List ℕ) → Type 0
Begun words told waiting left held held' = (text : List ℕ) → Puts words told waiting left text → PutsFront held held' text

-- ---- where memory or the sink ended the run

-- the loaded file couldn't be read, and a front of this line was put
pub record BegunUnread (words : List (List ℕ)) (left left' : Option (List ℕ)) (read read' : ℕ) (held held' : Option (List ℕ)) : Type 0 where
  pub name : List ℕ
  pub loads : Loads words name
  pub untouched : Untouched left left' read read'
  pub put : PutsFront held held' (line (codes "file fault"))

-- the script was carried out from the start to its end, the dump couldn't be written, and behind all that the script puts, or its summary,
-- a front of this line was put
pub record BegunUnwritten (words : List (List ℕ)) (told : Told) (waiting : List WatcherState) (left left' : Option (List ℕ)) (read read' : ℕ) (held held' : Option (List ℕ)) : Type 0 where
  pub asked : Asked
  pub from : WatchedStanding
  pub to : WatchedStanding
  pub starts : Starts words told waiting asked from
  pub between : Option (List ℕ)
  pub carried : Carried asked from to left left' held between
  pub calm : read' ≡ read
  pub name : List ℕ
  pub dump : asked.dump ≡ Some name
  pub put : PutsFront between held' (line (codes "file fault"))

-- no call of source and files failed, and a front was put of what the run puts otherwise; or a call of the source failed, and a front was
-- put of what the run of the bytes that were taken puts; or the loaded file couldn't be read; or the dump couldn't be written
pub data Early (words : List (List ℕ)) (told : Told) (waiting : List WatcherState) (left left' : Option (List ℕ)) (read read' : ℕ) (held held' : Option (List ℕ)) (filed filed' : ℕ) : Type 0 where
  no_fault : read' ≡ read → filed' ≡ filed → Begun words told waiting left held held' → Early words told waiting left left' read read' held held' filed filed'
  of_source : Rose read read' → filed' ≡ filed → OfStart words told waiting (λ from. BegunTaken from left left' held held')
      → Early words told waiting left left' read read' held held' filed filed'
  of_load : Rose filed filed' → BegunUnread words left left' read read' held held' → Early words told waiting left left' read read' held held' filed filed'
  of_dump : Rose filed filed' → BegunUnwritten words told waiting left left' read read' held held' → Early words told waiting left left' read read' held held' filed filed'
