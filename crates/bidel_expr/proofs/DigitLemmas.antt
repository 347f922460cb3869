-- The value of digits, digit by digit.
use Rattle.std.proofs.Common.{◌≡◌, ◌≤◌, ◌<◌, ◌+◌, ◌-◌, ◌*◌, ℕ, suc, List, [], ◌∷◌, length, get_or, drop, refl, ap, ◌∙◌, sym, arith, false, nat_le}
use Rattle.std.proofs.lemmas.Bool.{leb-false, lt-leb}
use Rattle.std.proofs.Math.Seq.{drop-cons}
use Rattle.std.proofs.Math.ListN.{drop_of_length-le}
use Rattle.std.specs.Char.{digit_value}
use Rattle.std.specs.Str.Parse.{AllDigits, digits_value, digits_value_after}
use Rattle.std.proofs.lemmas.Str.{digit_value_digit}
use Rattle.std.proofs.lemmas.Str.Parse.{digit_from_value}
use Rattle.bidel_expr.specs.Lexemes.{value_after}

-- one more digit
pub value_cons : (value digit : ℕ) (digits : List ℕ) → value_after value (digit ∷ digits) ≡ value_after (10 * value + (digit - 48)) digits
unfolding value_after
value_cons value digit digits = refl

-- further digits make the value no smaller
pub value_grows : (value : ℕ) (digits : List ℕ) → value ≤ value_after value digits
unfolding value_after
value_grows value [] = omega arith
value_grows value (digit ∷ digits) = omega (arith, value_grows (10 * value + (digit - 48)) digits)

pub value_none : (value : ℕ) → value_after value [] ≡ value
unfolding value_after
value_none value = refl

-- the digit at a place, and those behind it
pub value_at : (value at : ℕ) (digits : List ℕ) → at < length digits → value_after value (drop at digits) ≡ value_after (10 * value + (get_or digits at 0 - 48)) (drop (at + 1) digits)
value_at value at digits h =
    let next : suc at ≡ at + 1 = omega arith in
    ap (value_after value) (drop-cons digits at 0 h) ∙ value_cons value (get_or digits at 0) (drop (suc at) digits)
    ∙ ap (λ (n : ℕ). value_after (10 * value + (get_or digits at 0 - 48)) (drop n digits)) next

-- past the last digit
pub value_end : (value at : ℕ) (digits : List ℕ) → length digits ≤ at → value_after value (drop at digits) ≡ value
value_end value at digits h = ap (value_after value) (drop_of_length-le digits h) ∙ value_none value

-- where the digits up to a place are too great, all are
pub too_great : (value at whole most : ℕ) (digits : List ℕ) → at < length digits → value_after value (drop at digits) ≡ whole
    → nat_le (10 * value + (get_or digits at 0 - 48)) most ≡ false → nat_le whole most ≡ false
too_great value at whole most digits h e over =
    let grown = value_grows (10 * value + (get_or digits at 0 - 48)) (drop (at + 1) digits) in
    let same = sym e ∙ value_at value at digits h in
    lt-leb whole most (omega (arith, grown, same, leb-false (10 * value + (get_or digits at 0 - 48)) most over))

-- with decimal digits alone it is their value
value_is : (value : ℕ) (digits : List ℕ) → AllDigits 10 digits → value_after value digits ≡ digits_value_after 10 value digits
value_is value [] h = value_none value
value_is value (digit ∷ digits) h =
    let same : 10 * value + (digit - 48) ≡ value * 10 + digit_value digit = omega (arith, digit_value_digit digit (digit_from_value digit h.0)) in
    value_cons value digit digits ∙ value_is (10 * value + (digit - 48)) digits h.1 ∙ ap (λ (n : ℕ). digits_value_after 10 n digits) same

pub digits_have_value : (digits : List ℕ) → AllDigits 10 digits → value_after 0 digits ≡ digits_value 10 digits
digits_have_value digits h = value_is 0 digits h
