-- What an input holds of the bytes that were fed to it.
use Rattle.std.specs.Prelude.{◌≡◌, ◌≤◌, ◌+◌, ◌++◌, ℕ, Bool, true, List, [], length}
use Rattle.statements.specs.Views.{StatementView}
use Rattle.bidel_script.specs.Places.{behind_all, start}
use Rattle.bidel_script.specs.Tails.{AreAll, Fits}
use Rattle.bidel_script.specs.Script.{Leads, Comes, Outcome}
use Rattle.bidel_script.specs.Moved.{ComesBehind, end_behind, moved}
use Rattle.bidel_script.specs.Calls.{place_view}
use Rattle.script_stream.specs.declared.input.Input.{Input}

-- the greatest number of bytes of a script
abbrev pub limit : ℕ
limit = 268435456

-- behind bytes that are these statements, and behind which a comment is open or isn't, the others say what they say by themselves, however they go on
abbrev pub Follows : List ℕ → List StatementView → Bool → List ℕ → Type 0
Follows before early inside bytes = (more : List ℕ) (ended : Bool) (rest : List StatementView) (outcome : Outcome)
    → ComesBehind inside (bytes ++ more) ended rest outcome → Comes (before ++ (bytes ++ more)) ended (early ++ rest) (moved (length before) outcome)

-- these bytes were fed, and these of their statements were given; the bytes of the early ones are gone, with the white space and comments
-- behind them; no bytes are left where a comment is open
pub record Holds (fed : List ℕ) (given : List StatementView) (s : Input) : Type 0 where
  pub before : List ℕ
  pub early : List StatementView
  pub later : List StatementView
  pub bytes : fed ≡ before ++ s.bytes.items
  pub statements : given ≡ early ++ later
  pub follows : Follows before early s.inside s.bytes.items
  pub none : s.inside ≡ true → s.bytes.items ≡ []
  pub size : s.before ≡ length before
  pub place : place_view s.place ≡ behind_all start before
  pub all : AreAll s.bytes.items s.ended s.tokens.items s.tail
  pub fits : Fits s.bytes.items s.tail
  pub leads : Leads s.bytes.items s.tail s.tokens.items later s.used

-- how many bytes of the script stand before the first statement that wasn't given
abbrev pub place_in : Input → ℕ
place_in s = s.before + end_behind s.tokens.items s.used

-- bytes within the limit were fed, and some of their statements were given
abbrev pub IsInput : Input → Type 0
IsInput s = (fed : List ℕ) × (given : List StatementView) × Holds fed given s × (length fed ≤ limit)
