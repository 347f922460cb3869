-- What a stream holds of the bytes that were fed to it, and what it gives.
use Rattle.std.specs.Prelude.{◌≡◌, ◌<◌, ◌++◌, ◌∷◌, ◌⊎◌, ℕ, nat_lt, Bool, true, false, List, [], length, take, Result, Ok, Err}
use Rattle.par_base.specs.Checked.{Checked}
use Rattle.par_base.specs.declared.fault.Memory.{Memory}
use Rattle.statements.specs.Views.{StatementView}
use Rattle.bidel_lex.specs.declared.tokens.Lexed.TheVariants as lexed
use Rattle.bidel_script.specs.Places.{place_of}
use Rattle.bidel_script.specs.Script.{Comes, Over, Fault, Long, Open}
use Rattle.script_stream.specs.Holding.{Holds, limit, place_in}
use Rattle.engine_feeds.specs.Standing.{Standing}
use Rattle.engine_feeds.specs.Calls.{standing_of}
use Rattle.engine_feeds.specs.Act.{act}
use Rattle.engine_feeds.specs.Answer.{Answer}
use Rattle.engine_feeds.specs.Replies.{text_of, state_after}
use Rattle.script_run.specs.declared.stream.Next.{Next}
use Rattle.script_run.specs.declared.stream.Next.TheVariants as next
use Rattle.script_run.specs.declared.stream.Stop.TheVariants as stop
use Rattle.script_run.specs.declared.stream.Stream.{Stream}

-- whether a statement was refused
abbrev pub is_refused : Checked (Answer × Standing) → Bool
is_refused (Ok answer) = false
is_refused (Err refusal) = true

-- from this standing on these bytes were fed, and these of the statements that they fix were carried out and answered; bytes behind the
-- limit don't count, and then the end doesn't
pub record Stands {W : Type 0} (from : Standing) (fed : List ℕ) (answered : List StatementView) (s : Stream W) : Type 0 where
  pub holds : Holds (take limit fed) answered s.input
  pub passed : s.passed ≡ nat_lt limit (length fed)
  pub ends : s.input.ended ≡ true → (s.ended ≡ true) × (s.passed ≡ false)
  pub standing : standing_of s.watched ≡ state_after from answered

-- something was fed, from some standing on
abbrev pub IsStream : {W : Type 0} → Stream W → Type 0
IsStream s = (from : Standing) × (fed : List ℕ) × (answered : List StatementView) × Stands from fed answered s

-- it is open and wants more bytes
pub record AwaitsBytes {W : Type 0} (s : Stream W) : Type 0 where
  pub wants : s.input.tail.last ≡ lexed.More
  pub within : s.passed ≡ false
  pub unended : s.ended ≡ false
  pub going : s.going ≡ true

-- the next statement was carried out, and this is its reply
pub record Replies {W : Type 0} (from : Standing) (fed : List ℕ) (answered : List StatementView) (old new : Stream W) (text : List ℕ) (refused : Bool) : Type 0 where
  pub statement : StatementView
  pub stands : Stands from fed (answered ++ statement ∷ []) new
  pub text_is : text ≡ text_of (act (state_after from answered) statement)
  pub refused_is : refused ≡ is_refused (act (state_after from answered) statement)
  pub on : place_in old.input < place_in new.input

-- what stands behind the statements that were answered, which are all that the bytes fix
abbrev pub StandsThere : {W : Type 0} → List ℕ → List StatementView → Stream W → Stream W → Next → Type 0
StandsThere fed answered old new (next.Reply text refused) = ⊥
StandsThere fed answered old new next.More = (new ≡ old) × Comes fed false answered Open × AwaitsBytes new
StandsThere fed answered old new next.End = Comes fed true answered Over × (old.ended ≡ true)
StandsThere fed answered old new (next.Stop (stop.Syntax line column)) =
    (at : ℕ) × Comes (take limit fed) new.input.ended answered (Fault at) × (place_of (take limit fed) at ≡ record { line = line; column = column })
StandsThere fed answered old new (next.Stop stop.TooLong) =
    Comes (take limit fed) new.input.ended answered Long ⊎ ((limit < length fed) × Comes (take limit fed) false answered Open)

-- what comes of a stream
abbrev pub Gives : {W : Type 0} → Standing → List ℕ → List StatementView → Stream W → Stream W → Next → Type 0
Gives from fed answered old new (next.Reply text refused) = Replies from fed answered old new text refused
Gives from fed answered old new n = Stands from fed answered new × StandsThere fed answered old new n

-- whether the stream is still open behind what came of it, or want of memory
abbrev pub is_open_behind : Result Next Memory → Bool
is_open_behind (Ok (next.Reply text refused)) = true
is_open_behind (Ok next.More) = true
is_open_behind (Ok next.End) = false
is_open_behind (Ok (next.Stop reason)) = false
is_open_behind (Err memory) = false
