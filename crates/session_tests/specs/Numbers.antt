-- What writes do to two numbers.
use Rattle.std.specs.Prelude.{ℕ, cond, Bool, true, false, nat_lt, ◌||◌, List, [], ◌∷◌, Result, Ok, Err, if◌then◌else◌}
use Rattle.par_base.specs.declared.refusal.Refusal.{Refusal}
use Rattle.par_base.specs.declared.refusal.Refusal.TheVariants.{WrongCount}
use Rattle.session_tx.specs.Meaning.{Ran, Standing, Unsettled}
use Rattle.session_tx.specs.Calls.{next_number}
use Rattle.session_tests.specs.declared.side.Side.{Side}
use Rattle.session_tests.specs.declared.side.Side.TheVariants.{Left, Right}

-- the greatest number that may be written
abbrev pub most : ℕ
most = 9

-- the number on a side
abbrev pub number_at : {X : Type 0} → Side → X × X → X
number_at Left s = s.0
number_at Right s = s.1

-- another number on a side
abbrev pub put : Side → ℕ → ℕ × ℕ → ℕ × ℕ
put Left n s = (n, s.1)
put Right n s = (s.0, n)

abbrev pub is_side : Side → Side → Bool
is_side Left Left = true
is_side Left Right = false
is_side Right Left = false
is_side Right Right = true

-- a write puts a number on a side, and gives the number that stood there; it is refused where the number is too great
abbrev pub means : ℕ × ℕ → Side × ℕ → Result (Ran (ℕ × ℕ) Side ℕ) Refusal
means s w = if nat_lt most w.1 then Err (WrongCount w.1 most) else Ok (record { done = number_at w.0 s; next = put w.0 w.1 s; changes = is_side w.0 })

-- the runs that led to a state, from the numbers that they replaced, the newest first
abbrev pub runs_to : ℕ × ℕ → List (Side × ℕ) → List (Unsettled (ℕ × ℕ) Side)
runs_to s [] = []
runs_to s (e ∷ es) = record { before = put e.0 e.1 s; changes = is_side e.0 } ∷ runs_to (put e.0 e.1 s) es

-- what two numbers show, with the numbers at which each has changed last, and what was replaced
abbrev pub standing_of : ℕ × ℕ → ℕ × ℕ → ℕ → List (Side × ℕ) → Standing (ℕ × ℕ) Side
standing_of numbers changed history replaced = record { state = numbers; history = history; last = λ side. number_at side changed; unsettled = runs_to numbers replaced }

-- some number on the side was replaced
abbrev pub is_replaced : List (Side × ℕ) → Side → Bool
is_replaced [] side = false
is_replaced (e ∷ es) side = is_side e.0 side || is_replaced es side

-- the history number once these are settled: some mark names each of them
abbrev pub history_in : List (Side × ℕ) → ℕ → ℕ
history_in [] history = history
history_in (e ∷ es) history = next_number history

-- the last history numbers of both sides, once these are settled
abbrev pub changed_in : List (Side × ℕ) → ℕ × ℕ → ℕ → ℕ × ℕ
changed_in replaced changed history = (cond (is_replaced replaced Left) history changed.0, cond (is_replaced replaced Right) history changed.1)
