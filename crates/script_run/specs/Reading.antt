-- What the statements of a source are, and why no more come. A source tells what is left in it before and now, where it knows that.
use Rattle.std.specs.Prelude.{◌≡◌, ◌≤◌, ◌+◌, ◌++◌, ℕ, nat_le, Bool, true, false, List, length, take, Option, Some, None, ⊤}
use Rattle.std.specs.Io.KnownBytes.{Consumes, IsAtEnd}
use Rattle.outside.specs.Causes.{Rose}
use Rattle.statements.specs.Views.{StatementView}
use Rattle.bidel_script.specs.Places.{place_of}
use Rattle.bidel_script.specs.Script.{Comes, Outcome, Over, Fault, Long, Open}
use Rattle.script_stream.specs.Holding.{limit}
use Rattle.engine_feeds.specs.Standing.{Standing}
use Rattle.script_run.specs.declared.stream.Stream.{Stream}
use Rattle.script_run.specs.Streams.{Stands}

-- the greatest number of bytes that are taken at once
abbrev pub piece_limit : ℕ
piece_limit = 4096

-- the bytes are one piece; or all but a last piece of them break no rule, and the statements that these fix are among these
pub data SeenSoon (bytes : List ℕ) (given : List StatementView) : Type 0 where
  at_first : length bytes ≤ piece_limit → SeenSoon bytes given
  behind : (front piece : List ℕ) (before rest : List StatementView) → bytes ≡ front ++ piece → length piece ≤ piece_limit → Comes front false before Open
      → given ≡ before ++ rest → SeenSoon bytes given

-- these are the bytes that were taken; no call failed, and `ended` says that the source was read to its end
pub record Taken (left left' : Option (List ℕ)) (was is : ℕ) (bytes : List ℕ) (ended : Bool) : Type 0 where
  pub consumed : Consumes left left' bytes
  pub within : length bytes ≤ limit
  pub same : is ≡ was
  pub end : ended ≡ true → IsAtEnd left'

-- from this standing on the bytes that were taken were fed, and these statements answered
pub record Reads {W : Type 0} (from : Standing) (left left' : Option (List ℕ)) (was is : ℕ) (given : List StatementView) (s : Stream W) : Type 0 where
  pub bytes : List ℕ
  pub taken : Taken left left' was is bytes s.ended
  pub stands : Stands from bytes given s
  pub soon : SeenSoon bytes given

-- and more bytes are wanted
pub record Waits {W : Type 0} (from : Standing) (left left' : Option (List ℕ)) (was is : ℕ) (given : List StatementView) (s : Stream W) : Type 0 where
  pub reads : Reads from left left' was is given s
  pub open' : Comes reads.bytes false given Open

-- where the source told its bytes, the statements are the first of those that all of its bytes within the limit fix
abbrev pub First : Option (List ℕ) → List StatementView → Type 0
First None sts = ⊤
First (Some told) sts = (all : List StatementView) (outcome : Outcome) → Comes (take limit told) (nat_le (length told) limit) all outcome → (rest : List StatementView) × (all ≡ sts ++ rest)

-- the source was read to its end, and its bytes are a script of these statements
pub record ReachesEnd (left left' : Option (List ℕ)) (was is : ℕ) (sts : List StatementView) : Type 0 where
  pub bytes : List ℕ
  pub taken : Taken left left' was is bytes true
  pub comes : Comes bytes true sts Over

-- behind these statements of the bytes that were taken stands a fault, in this line and column
pub record ReachesFault (left left' : Option (List ℕ)) (was is : ℕ) (sts : List StatementView) (line column : ℕ) : Type 0 where
  pub bytes : List ℕ
  pub ended : Bool
  pub at : ℕ
  pub taken : Taken left left' was is bytes ended
  pub comes : Comes bytes ended sts (Fault at)
  pub place : place_of bytes at ≡ record { line = line; column = column }
  pub soon : SeenSoon bytes sts

-- behind them stands a statement that is too long
pub record ReachesLong (left left' : Option (List ℕ)) (was is : ℕ) (sts : List StatementView) : Type 0 where
  pub bytes : List ℕ
  pub ended : Bool
  pub taken : Taken left left' was is bytes ended
  pub comes : Comes bytes ended sts Long
  pub soon : SeenSoon bytes sts

-- a call of the source failed, and the bytes that were taken fix these statements and break no rule
pub record ReachesUnread (left left' : Option (List ℕ)) (was is : ℕ) (sts : List StatementView) : Type 0 where
  pub bytes : List ℕ
  pub consumed : Consumes left left' bytes
  pub within : length bytes ≤ limit
  pub cause : Rose was is
  pub comes : Comes bytes false sts Open

-- one byte more than the limit was taken, and those within it fix these statements and break no rule
pub record ReachesTooMany (left left' : Option (List ℕ)) (was is : ℕ) (sts : List StatementView) : Type 0 where
  pub more : List ℕ
  pub consumed : Consumes left left' more
  pub above : length more ≡ limit + 1
  pub same : is ≡ was
  pub comes : Comes (take limit more) false sts Open
