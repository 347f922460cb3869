-- What the inner calls give.
use Rattle.std.specs.Prelude.{◌≡◌, ◌<◌, ◌+◌, ◌-◌, ◌*◌, ◌&&◌, ℕ, not, true, false, List, [], length, take, Option, codes, if◌then◌else◌, ⊤}
use Rattle.std.specs.Io.KnownBytes.{Appends}
use Rattle.par_base.specs.Checked.{Checked}
use Rattle.outside.specs.Causes.{Rose}
use Rattle.statements.specs.Views.{StatementView, statement_view}
use Rattle.script_stream.specs.declared.input.Next.{Next as Found}
use Rattle.script_stream.specs.declared.input.Next.TheVariants as found
use Rattle.script_stream.specs.Holding.{Holds, limit, place_in}
use Rattle.script_stream.specs.Giving.{GivesStatement, Stands as StandsInput}
use Rattle.engine_feeds.specs.Standing.{Standing}
use Rattle.engine_feeds.specs.Calls.{standing_of}
use Rattle.engine_feeds.specs.EngineCoreTexts.{line}
use Rattle.engine_feeds.specs.Answer.{Answer}
use Rattle.engine_feeds.specs.Replies.{text_of, out, state_after}
use Rattle.script_run.specs.Statuses.{Done, Stopped, Unread, Passed, PutsFront, CutShort, fault_line}
use Rattle.script_run.specs.Streams.{is_refused}
use Rattle.script_run.specs.Reading.{First, Reads, ReachesEnd, ReachesFault, ReachesLong, ReachesUnread, ReachesTooMany}
use Rattle.script_run.specs.declared.stream.Stream.{Stream}
use Rattle.script_run.specs.declared.stream.Next.{Next}
use Rattle.script_run.specs.declared.stream.Next.TheVariants as next
use Rattle.script_run.specs.declared.stream.Stop.{Stop}
use Rattle.script_run.specs.declared.stream.Stop.TheVariants as stop
use Rattle.script_run.specs.declared.turn.Last.{Last}
use Rattle.script_run.specs.declared.turn.Last.TheVariants as last
use Rattle.script_run.specs.declared.turn.Turn.{Turn}
use Rattle.script_run.specs.declared.turn.Turn.TheVariants as turn
use Rattle.script_run.specs.declared.run.Ran.{Ran}
use Rattle.script_run.specs.declared.run.Ran.TheVariants as ran
use Rattle.script_run.specs.declared.end.End.{End}
use Rattle.script_run.specs.declared.end.End.TheVariants as end

-- ---- one statement

-- the lines that answer a statement, and whether it was refused
abbrev pub IsReplyTo : Checked (Answer × Standing) → Next → Type 0
IsReplyTo answered (next.Reply text refused) = (text ≡ text_of answered) × (refused ≡ is_refused answered)
IsReplyTo answered next.More = ⊥
IsReplyTo answered next.End = ⊥
IsReplyTo answered (next.Stop reason) = ⊥

-- the input gave a statement
pub record FindsStatement {W : Type 0} (fed : List ℕ) (answered : List StatementView) (old new : Stream W) (statement : StatementView) : Type 0 where
  pub given : GivesStatement (take limit fed) answered old.input new.input statement
  pub ends : new.input.ended ≡ true → (old.ended ≡ true) × (old.passed ≡ false)

-- it gave none, for this reason
pub record FindsNone {W : Type 0} (fed : List ℕ) (answered : List StatementView) (old new : Stream W) (found : Found) : Type 0 where
  pub holds : Holds (take limit fed) answered new.input
  pub ends : new.input.ended ≡ true → (old.ended ≡ true) × (old.passed ≡ false)
  pub there : StandsInput (take limit fed) answered new.input found

-- what the input gives behind the statements that were answered; where it wants more, the stream is as it was, and the end wasn't told
-- or doesn't count
abbrev pub FindsNext : {W : Type 0} → List ℕ → List StatementView → Stream W → Stream W → Found → Type 0
FindsNext fed answered old new (found.Statement statement) = FindsStatement fed answered old new (statement_view statement)
FindsNext fed answered old new found.More = FindsNone fed answered old new found.More × (new ≡ old) × (old.ended && not old.passed ≡ false)
FindsNext fed answered old new f = FindsNone fed answered old new f

-- ---- the source

-- how much may still come of a stream: bytes up to the limit, the end, and statements
abbrev pub room_in : {W : Type 0} → Stream W → ℕ
room_in s = 2 * (limit - (s.input.before + length s.input.bytes.items)) + (if s.ended then 0 else 1) + (limit - place_in s.input)

-- what stands behind the statements where a script goes no further
abbrev pub last_of : Stop → Last
last_of (stop.Syntax line column) = last.Fault line column
last_of stop.TooLong = last.Long

-- what stands behind these statements of the source
abbrev pub Reached : Option (List ℕ) → Option (List ℕ) → ℕ → ℕ → List StatementView → Last → Type 0
Reached left left' was is sts last.Over = ReachesEnd left left' was is sts
Reached left left' was is sts (last.Fault line column) = ReachesFault left left' was is sts line column
Reached left left' was is sts last.Long = ReachesLong left left' was is sts
Reached left left' was is sts last.Unread = ReachesUnread left left' was is sts
Reached left left' was is sts last.TooMany = ReachesTooMany left left' was is sts

-- a piece was fed, or the end told; or no more comes of the source
abbrev pub Feeds : {W : Type 0} → Standing → Option (List ℕ) → Option (List ℕ) → ℕ → ℕ → List StatementView → Stream W → Stream W → Turn → Type 0
Feeds from left left' was is sts old new turn.Goes = Reads from left left' was is sts new × (room_in new < room_in old) × (new.going ≡ true)
Feeds from left left' was is sts old new (turn.Stops last) = Reached left left' was is sts last
Feeds from left left' was is sts old new turn.Memory = (is ≡ was) × First left sts
Feeds from left left' was is sts old new turn.Unwritten = ⊥

-- ---- all statements

-- statements of the source were carried out and answered, and this stands behind them
pub record RunsTo (from to : Standing) (left left' : Option (List ℕ)) (read read' : ℕ) (held held' : Option (List ℕ)) (last : Last) : Type 0 where
  pub statements : List StatementView
  pub reached : Reached left left' read read' statements last
  pub put : Appends held held' (out from statements)
  pub next : to ≡ state_after from statements

-- statements of the source were carried out, and a front of the lines that answer them was put
pub record RunsFront (from : Standing) (left : Option (List ℕ)) (held held' : Option (List ℕ)) : Type 0 where
  pub statements : List StatementView
  pub first : First left statements
  pub put : PutsFront held held' (out from statements)

-- statements of the source were answered, they brought the state about, and their lines were put
pub record RanSoFar {W : Type 0} (from : Standing) (left left' : Option (List ℕ)) (read read' : ℕ) (held held' : Option (List ℕ)) (stream : Stream W) : Type 0 where
  pub statements : List StatementView
  pub reads : Reads from left left' read read' statements stream
  pub put : Appends held held' (out from statements)

-- what a turn leaves
abbrev pub Turns : {W : Type 0} → Standing → Option (List ℕ) → Option (List ℕ) → ℕ → ℕ → Option (List ℕ) → Option (List ℕ) → ℕ → ℕ → Stream W → Stream W → Turn → Type 0
Turns from left left' read read' held held' was is old new turn.Goes =
    RanSoFar from left left' read read' held held' new × (room_in new < room_in old) × (new.going ≡ true)
Turns from left left' read read' held held' was is old new (turn.Stops last) = RunsTo from (standing_of new.watched) left left' read read' held held' last
Turns from left left' read read' held held' was is old new turn.Memory = (read' ≡ read) × RunsFront from left held held'
Turns from left left' read read' held held' was is old new turn.Unwritten = Rose was is × (read' ≡ read) × RunsFront from left held held'

-- lines were put, or a front of them
abbrev pub PutsReply : List ℕ → Option (List ℕ) → Option (List ℕ) → ℕ → ℕ → Turn → Type 0
PutsReply text held held' was is turn.Goes = Appends held held' text × (is ≡ was)
PutsReply text held held' was is (turn.Stops last) = ⊥
PutsReply text held held' was is turn.Memory = ⊥
PutsReply text held held' was is turn.Unwritten = Rose was is × PutsFront held held' text

-- a turn counts no fault of the sink where it isn't the sink that failed
abbrev pub TurnStays : ℕ → ℕ → Turn → Type 0
TurnStays was is turn.Unwritten = ⊤
TurnStays was is _ = is ≡ was

-- what the turns leave
abbrev pub Runs : Standing → Standing → Option (List ℕ) → Option (List ℕ) → ℕ → ℕ → Option (List ℕ) → Option (List ℕ) → ℕ → ℕ → Ran → Type 0
Runs from to left left' read read' held held' was is (ran.Stops last) = RunsTo from to left left' read read' held held' last
Runs from to left left' read read' held held' was is ran.Memory = (read' ≡ read) × RunsFront from left held held'
Runs from to left left' read read' held held' was is ran.Unwritten = Rose was is × (read' ≡ read) × RunsFront from left held held'

-- the turns count no fault of the sink where it isn't the sink that failed
abbrev pub RunStays : ℕ → ℕ → Ran → Type 0
RunStays was is ran.Unwritten = ⊤
RunStays was is _ = is ≡ was

-- ---- the last line

-- the last line of what stands behind the statements
abbrev pub last_text : Last → List ℕ
last_text last.Over = []
last_text (last.Fault at column) = fault_line (record { line = at; column = column })
last_text last.Long = line (codes "too long")
last_text last.TooMany = line (codes "too long")
last_text last.Unread = line (codes "read fault")

-- a line was put, or a front of it
abbrev pub PutsLine : Last → List ℕ → Option (List ℕ) → Option (List ℕ) → ℕ → ℕ → Ran → Type 0
PutsLine last text held held' was is (ran.Stops same) = (same ≡ last) × Appends held held' text
PutsLine last text held held' was is ran.Memory = held' ≡ held
PutsLine last text held held' was is ran.Unwritten = Rose was is × PutsFront held held' text

-- how a run ends
abbrev pub end_of : Ran → End
end_of (ran.Stops last.Over) = end.Done
end_of (ran.Stops (last.Fault line column)) = end.Syntax
end_of (ran.Stops last.Long) = end.TooLong
end_of (ran.Stops last.TooMany) = end.TooLong
end_of (ran.Stops last.Unread) = end.Unread
end_of ran.Memory = end.Memory
end_of ran.Unwritten = end.Unwritten

-- the run counts no fault of the sink where it isn't the sink that failed
abbrev pub EndStays : ℕ → ℕ → End → Type 0
EndStays was is end.Unwritten = ⊤
EndStays was is _ = is ≡ was

-- what a run leaves: of the source what is left and its count of faults, and of the sink its bytes and its count, before and now; and
-- the engine's state before and now
abbrev pub Ends : Standing → Standing → Option (List ℕ) → Option (List ℕ) → ℕ → ℕ → Option (List ℕ) → Option (List ℕ) → ℕ → ℕ → End → Type 0
Ends from to left left' read read' held held' was is end.Done = Done from to left left' held held' × (read' ≡ read)
Ends from to left left' read read' held held' was is end.Memory = CutShort from left left' read read' held held'
Ends from to left left' read read' held held' was is end.Syntax = Stopped from left left' read read' held held'
Ends from to left left' read read' held held' was is end.Unread = Unread from left left' read read' held held'
Ends from to left left' read read' held held' was is end.Unwritten = Rose was is × CutShort from left left' read read' held held'
Ends from to left left' read read' held held' was is end.TooLong = Passed from left left' read read' held held'
