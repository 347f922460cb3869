-- The number that a text of digits is.
use Rattle.std.specs.Prelude.{◌≤◌, ◌<◌, ◌^◌, length, None, Result, Err}
use Rattle.std.specs.Str.{all_ascii_digits}
use Rattle.std.specs.Str.Parse.{ParsesUnsigned, digits_value}
use Rattle.std.proofs.Common.{◌≡◌, ℕ, List, [], ◌∷◌, true, ◌∙◌, arith}
use Rattle.std.proofs.lemmas.Str.Parse.{IsNumeralModel, numerals_by_value, parse_digits, tells_all_ascii_digits}
use Rattle.run_words.specs.inner.Reading.{FindsNumber}

own : IsNumeralModel (λ ds. all_ascii_digits ds ≡ true) (digits_value 10)
own = numerals_by_value (λ ds. all_ascii_digits ds ≡ true) tells_all_ascii_digits

-- no number at all
pub none_parsed : {E : Type 0} (text : List ℕ) (r : Result ℕ E) (e : E) → ParsesUnsigned 64 10 text r → all_ascii_digits text ≡ true → r ≡ Err e → FindsNumber text None
none_parsed text r e parses digits is m number =
    let none = rw is at (parse_digits own 64 text r parses digits) in
    let within = number.within in
    let value = number.value in
    let least = number.least in
    none (some_digits text value least, omega arith)
  where
    some_digits : (ds : List ℕ) → m ≡ digits_value 10 ds → 1 ≤ m → 0 < length ds
    some_digits [] v l = let zero_is : m ≡ 0 = v in omega arith
    some_digits (d ∷ ds) v l = omega arith
