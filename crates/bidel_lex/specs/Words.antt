-- Words, numbers and references: what one more byte is to them.
use Rattle.std.specs.Prelude.{◌+◌, ◌-◌, ◌*◌, ◌^◌, ℕ, nat_le, nat_lt, if◌then◌else◌, Option, None, Some}
use Rattle.bidel_lex.specs.Classes.{is_digit, is_word_byte}
use Rattle.bidel_lex.specs.declared.unfinished.Unfinished.TheVariants.{Word, Number, Reference}
use Rattle.bidel_lex.specs.declared.unfinished.Step.{Step}
use Rattle.bidel_lex.specs.declared.unfinished.Step.TheVariants.{Longer, Over, Fault}

-- a word has at most 64 bytes: a 65th is a fault
abbrev pub word_step : ℕ → ℕ → Step
word_step size b =
    if is_word_byte b then (if nat_lt size 64 then Longer (Word (size + 1)) else Fault)
    else Over

-- the value of digits and one more digit, where it is within a limit
abbrev pub value_with : ℕ → ℕ → ℕ → Option ℕ
value_with value b limit = if nat_le (10 * value + (b - 48)) limit then Some (10 * value + (b - 48)) else None

-- a number with one more digit
abbrev pub number_with : Option ℕ → Step
number_with (Some value) = Longer (Number value)
number_with None = Fault

-- the digit that goes beyond 2^63 is a fault
abbrev pub number_step : ℕ → ℕ → Step
number_step value b = if is_digit b then number_with (value_with value b (2 ^ 63)) else Over

-- a reference with one more digit
abbrev pub reference_with : Option ℕ → Step
reference_with (Some value) = Longer (Reference value)
reference_with None = Fault

-- the digit that goes beyond 2^64 - 1 is a fault
abbrev pub reference_step : ℕ → ℕ → Step
reference_step value b = if is_digit b then reference_with (value_with value b (2 ^ 64 - 1)) else Over
