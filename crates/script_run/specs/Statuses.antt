-- How the run of a script ends, from a database on. Source and sink tell their bytes before and now, where they know them.
use Rattle.std.specs.Prelude.{◌≡◌, ◌++◌, ◌≤◌, ◌<◌, ◌+◌, ◌⊎◌, ℕ, nat_le, Bool, true, false, List, [], length, take, Option, Some, None, codes, decimal, ⊤}
use Rattle.std.specs.Io.KnownBytes.{Consumes, Appends, IsAtEnd}
use Rattle.outside.specs.Causes.{Rose}
use Rattle.statements.specs.Views.{StatementView}
use Rattle.bidel_script.specs.Places.{Place, place_of}
use Rattle.bidel_script.specs.Script.{IsScript, Comes, Outcome, Over, Fault, Long, Open}
use Rattle.script_run.specs.Reading.{SeenSoon}
use Rattle.engine_feeds.specs.EngineCoreTexts.{line}
use Rattle.engine_feeds.specs.Standing.{Standing}
use Rattle.engine_feeds.specs.Replies.{out, state_after}

-- the greatest number of bytes of a script
abbrev pub limit : ℕ
limit = 268435456

-- ---- what was taken from the source

-- the bytes that were taken and count, and whether the input ended behind them, by the source's count of faults before and now: it was
-- read to its end, or not so far, or a call failed, or the limit was passed, whose first bytes count; only the failed call is counted
pub data Taken (left left' : Option (List ℕ)) (was is : ℕ) (bytes : List ℕ) (ended : Bool) : Type 0 where
  whole : Consumes left left' bytes → IsAtEnd left' → length bytes ≤ limit → is ≡ was → ended ≡ true → Taken left left' was is bytes ended
  early : Consumes left left' bytes → length bytes ≤ limit → is ≡ was → ended ≡ false → Taken left left' was is bytes ended
  failed : Consumes left left' bytes → length bytes ≤ limit → Rose was is → ended ≡ false → Taken left left' was is bytes ended
  above : (taken : List ℕ) → Consumes left left' taken → limit < length taken → bytes ≡ take limit taken → is ≡ was → ended ≡ false
      → Taken left left' was is bytes ended

-- ---- what was put

-- the last line of a run that found a fault
abbrev pub fault_line : Place → List ℕ
fault_line place = line (codes "syntax " ++ decimal place.line ++ codes ":" ++ decimal place.column)

-- the last line of a run; where a statement is still open it is the line of what stopped the reading
abbrev pub last_line : List ℕ → List ℕ → Outcome → List ℕ
last_line bytes stopped Over = []
last_line bytes stopped (Fault at) = fault_line (place_of bytes at)
last_line bytes stopped Long = line (codes "too long")
last_line bytes stopped Open = stopped

-- the lines that answer the statements that these bytes fix, and the last line
pub record WritesScript (from : Standing) (bytes : List ℕ) (ended : Bool) (stopped text : List ℕ) : Type 0 where
  pub statements : List StatementView
  pub outcome : Outcome
  pub comes : Comes bytes ended statements outcome
  pub same : text ≡ out from statements ++ last_line bytes stopped outcome

-- the source was read to its end, its bytes are a script, the sink was given the lines that answer its statements, and this is the state behind them
pub record Done (from to : Standing) (left left' held held' : Option (List ℕ)) : Type 0 where
  pub bytes : List ℕ
  pub statements : List StatementView
  pub taken : Consumes left left' bytes
  pub whole : IsAtEnd left'
  pub within : length bytes ≤ limit
  pub script : IsScript bytes statements
  pub comes : Comes bytes true statements Over
  pub put : Appends held held' (out from statements)
  pub next : to ≡ state_after from statements

-- where the source told its bytes, they are a script, and the sink was given the lines that answer its statements
abbrev pub AnswersScript : Standing → Option (List ℕ) → Option (List ℕ) → Option (List ℕ) → Type 0
AnswersScript from None held held' = ⊤
AnswersScript from (Some bytes) held held' = (statements : List StatementView) × IsScript bytes statements × Appends held held' (out from statements)

-- the bytes that were taken have a fault, all of them but the last piece break no rule, and the sink was given the lines that answer
-- the statements before the fault, and the line with its place
pub record Stopped (from : Standing) (left left' : Option (List ℕ)) (was is : ℕ) (held held' : Option (List ℕ)) : Type 0 where
  pub bytes : List ℕ
  pub ended : Bool
  pub before : List StatementView
  pub at : ℕ
  pub taken : Taken left left' was is bytes ended
  pub soon : SeenSoon bytes before
  pub fault : Comes bytes ended before (Fault at)
  pub put : Appends held held' (out from before ++ fault_line (place_of bytes at))

-- a call of the source failed, the bytes that were taken have no fault and no statement that is too long, and the sink was given the
-- lines that answer the statements whose end they fix, and this line
pub record Unread (from : Standing) (left left' : Option (List ℕ)) (was is : ℕ) (held held' : Option (List ℕ)) : Type 0 where
  pub bytes : List ℕ
  pub before : List StatementView
  pub taken : Consumes left left' bytes
  pub within : length bytes ≤ limit
  pub cause : Rose was is
  pub rest : Comes bytes false before Open
  pub put : Appends held held' (out from before ++ line (codes "read fault"))

-- a statement is too long, and all bytes that were taken but the last piece break no rule; or more bytes than the limit were taken, by
-- one, and those within it have no fault; the sink was given the lines that answer the statements before, and this line
pub record Passed (from : Standing) (left left' : Option (List ℕ)) (was is : ℕ) (held held' : Option (List ℕ)) : Type 0 where
  pub bytes : List ℕ
  pub ended : Bool
  pub before : List StatementView
  pub taken : Taken left left' was is bytes ended
  pub long : (Comes bytes ended before Long × SeenSoon bytes before)
      ⊎ (Comes bytes false before Open × (more : List ℕ) × Consumes left left' more × (length more ≡ limit + 1) × (bytes ≡ take limit more) × (is ≡ was))
  pub put : Appends held held' (out from before ++ line (codes "too long"))

-- ---- what a source told

-- of the bytes that the source told those count that are within the limit, and it ends there where there are no more; and this comes of them
pub record Had (left : Option (List ℕ)) (outcome : Outcome) : Type 0 where
  pub bytes : List ℕ
  pub statements : List StatementView
  pub told : left ≡ Some bytes
  pub comes : Comes (take limit bytes) (nat_le (length bytes) limit) statements outcome

-- ---- fronts

-- the sink was given a front of these bytes
abbrev pub PutsFront : Option (List ℕ) → Option (List ℕ) → List ℕ → Type 0
PutsFront held held' bytes = (n : ℕ) × Appends held held' (take n bytes)

-- where the source told its bytes, the sink was given a front of what their run puts where nothing fails
abbrev pub Begun : Standing → Option (List ℕ) → Option (List ℕ) → Option (List ℕ) → Type 0
Begun from None held held' = ⊤
Begun from (Some bytes) held held' = (text : List ℕ) → WritesScript from (take limit bytes) (nat_le (length bytes) limit) (line (codes "too long")) text → PutsFront held held' text

-- where the source told its bytes, the sink was given a front of what the run of those that were taken puts where the source failed
-- behind them and nothing else fails
abbrev pub BegunTaken : Standing → Option (List ℕ) → Option (List ℕ) → Option (List ℕ) → Option (List ℕ) → Type 0
BegunTaken from None left' held held' = ⊤
BegunTaken from (Some told) left' held held' =
    (bytes text : List ℕ) → Consumes (Some told) left' bytes → WritesScript from bytes false (line (codes "read fault")) text → PutsFront held held' text

-- where memory or the sink ended the run: no call of the source failed, and a front was put of what the run of its bytes puts, or one
-- failed, and a front was put of what the run of those that were taken puts
abbrev pub CutShort : Standing → Option (List ℕ) → Option (List ℕ) → ℕ → ℕ → Option (List ℕ) → Option (List ℕ) → Type 0
CutShort from left left' was is held held' = ((is ≡ was) × Begun from left held held') ⊎ (Rose was is × BegunTaken from left left' held held')

-- ---- what was cut off

-- where the source told its bytes, the fault is the first one of all of them that count, and the sink was given what their run puts
abbrev pub StoppedOfAll : Standing → Option (List ℕ) → Option (List ℕ) → Option (List ℕ) → Type 0
StoppedOfAll from None held held' = ⊤
StoppedOfAll from (Some bytes) held held' =
    (before : List StatementView) × (at : ℕ) × Comes (take limit bytes) (nat_le (length bytes) limit) before (Fault at)
    × Appends held held' (out from before ++ fault_line (place_of (take limit bytes) at))

-- where the source told its bytes, the sink was given the replies to first ones of the statements that all of them fix that count, and
-- this line
abbrev pub FirstReplies : Standing → Option (List ℕ) → Option (List ℕ) → Option (List ℕ) → List ℕ → Type 0
FirstReplies from None held held' last = ⊤
FirstReplies from (Some bytes) held held' last =
    (before : List StatementView) × (rest : List StatementView) × (outcome : Outcome)
    × Comes (take limit bytes) (nat_le (length bytes) limit) (before ++ rest) outcome × Appends held held' (out from before ++ line last)

-- the run of any bytes puts one text where nothing fails
abbrev pub OneText : Type 0
OneText = (from : Standing) (bytes : List ℕ) (ended : Bool) (stopped : List ℕ) → (text : List ℕ) × WritesScript from bytes ended stopped text
    × ((other : List ℕ) → WritesScript from bytes ended stopped other → other ≡ text)
