-- What the inner calls give.
use Rattle.std.specs.Prelude.{◌≡◌, ◌≤◌, ◌+◌, ◌++◌, ℕ, Bool, List, length, take, drop}
use Rattle.bidel_lex.specs.declared.tokens.Lexed.TheVariants.{More}
use Rattle.statements.specs.Views.{StatementView}
use Rattle.bidel_script.specs.Places.{Place, behind_all}
use Rattle.bidel_script.specs.Tails.{first_byte, is_open_behind}
use Rattle.bidel_script.specs.Calls.{place_view}
use Rattle.script_stream.specs.declared.input.Input.{Input}
use Rattle.script_stream.specs.declared.input.Kept.{Kept}
use Rattle.script_stream.specs.Holding.{Holds, place_in}

-- what is kept of bytes at a place, before which a comment is open or isn't: those from the first one on that is neither white space nor of a comment
pub record IsKept (all : List ℕ) (was : Bool) (from : Place) (kept : Kept) : Type 0 where
  pub passed : kept.passed ≡ first_byte was 0 all
  pub within : kept.passed ≤ length all
  pub bytes : kept.bytes.items ≡ drop (first_byte was 0 all) all
  pub inside : kept.inside ≡ is_open_behind was all
  pub place : place_view kept.place ≡ behind_all from (take (first_byte was 0 all) all)

-- a piece more was fed where more was wanted; or the end was, where none follows
pub record Refilled (old : Input) (piece : List ℕ) (ended : Bool) (new : Input) : Type 0 where
  pub holds : old.tail.last ≡ More → (fed : List ℕ) (given : List StatementView) → Holds fed given old → Holds (fed ++ piece) given new
  pub ends : new.ended ≡ ended
  pub size : new.before + length new.bytes.items ≡ old.before + length old.bytes.items + length piece
  pub place : place_in old ≤ place_in new
