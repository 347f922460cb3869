-- What is sound of expressions and their values.
use Rattle.std.specs.Prelude.{slice_get, nat_le, ◌^◌, ◌+ℤ◌, ◌-ℤ◌, ◌*ℤ◌, neg_ℤ, int_div, int_rem, ◌||◌, not, FitsSigned, IsUtf8}
use Rattle.std.specs.Int.{w64}
use Rattle.std.specs.Option.{option_map_or}
use Rattle.std.proofs.Common.{◌≡◌, ℕ, zero, suc, ℤ, pos, negsuc, arith, ◌+◌, ◌≤◌, ◌++◌, List, [], ◌∷◌, length, Bool, true, false, if◌then◌else◌, Option, Some, None, unwrap_or, length-append, refl}
use Rattle.std.proofs.lemmas.Bool.{leb-true, ltb-true}
use Rattle.std.proofs.lemmas.Int.{fits_signed_from_abs, rem_below}
use Rattle.std.proofs.lemmas.Str.{IsUtf8-append}
use Rattle.par_base.specs.declared.value.Value.{Value}
use Rattle.par_base.specs.declared.value.Value.TheVariants.{Null, Int, Text, Reference}
use Rattle.expr_lang.specs.declared.tree.UnaryOp.{UnaryOp}
use Rattle.expr_lang.specs.declared.tree.UnaryOp.TheVariants.{Negate, Not, IsNull, IsNotNull}
use Rattle.expr_lang.specs.declared.tree.BinaryOp.{BinaryOp}
use Rattle.expr_lang.specs.declared.tree.BinaryOp.TheVariants.{Or, And, Equal, NotEqual, Less, LessOrEqual, Greater, GreaterOrEqual, Add, Subtract, Concat, Multiply, Divide, Remainder}
use Rattle.expr_lang.specs.Terms.{Term, Literal, Column, Unary, Binary}
use Rattle.expr_lang.specs.Operations.{fits_i64, in_range, is_zero, truth, ints_of, quotient, remainder, joined, text_limit, unary_of, binary_of}
use Rattle.expr_lang.specs.Val.{val}
use Rattle.op_law.specs.Sound.{ValueSound, ValuesSound}
use Rattle.op_law.specs.SoundTerms.{TermSound}
use Rattle.op_law.proofs.SoundLaws.{value_more}

-- a value that was chosen by a test
chosen_sound : (n : ℕ) (test : Bool) (v w : Value) → ValueSound n v → ValueSound n w → ValueSound n (if test then v else w)
chosen_sound n true v w one other = one
chosen_sound n false v w one other = other

-- 1 and 0
truth_sound : (n : ℕ) (test : Bool) → ValueSound n (truth test)
truth_sound n true = fits_signed_from_abs w64 (pos 1) (omega arith)
truth_sound n false = fits_signed_from_abs w64 (pos 0) (omega arith)

-- an integer that passed the test has 64 bits
fits_tested : (z : ℤ) → fits_i64 z ≡ true → FitsSigned w64 z
fits_tested (pos m) e = record { sfits = ltb-true m (2 ^ 63) e }
fits_tested (negsuc m) e = record { sfits = ltb-true m (2 ^ 63) e }

-- an integer, or null
range_sound : (n : ℕ) (z : ℤ) → ValueSound n (in_range z)
range_sound n z = by (fits_i64 z) refl
  where
    by : (test : Bool) → fits_i64 z ≡ test → ValueSound n (if test then Int z else Null)
    by true e = fits_tested z e
    by false e = tt

quotient_sound : (n : ℕ) (x y : ℤ) → ValueSound n (quotient x y)
quotient_sound n x y = chosen_sound n (is_zero y) Null (in_range (int_div x y)) tt (range_sound n (int_div x y))

-- the remainder by an integer of 64 bits has 64 bits
remainder_fits : (x y : ℤ) → is_zero y ≡ false → FitsSigned w64 y → FitsSigned w64 (int_rem x y)
remainder_fits x (pos zero) e fits = cc
remainder_fits x (pos (suc m)) e fits = fits_signed_from_abs w64 (int_rem x (pos (suc m))) (omega (arith, rem_below x (pos (suc m)) (omega arith), fits.sfits))
remainder_fits x (negsuc m) e fits = fits_signed_from_abs w64 (int_rem x (negsuc m)) (omega (arith, rem_below x (negsuc m) (omega arith), fits.sfits))

remainder_sound : (n : ℕ) (x y : ℤ) → FitsSigned w64 y → ValueSound n (remainder x y)
remainder_sound n x y fits = by (is_zero y) refl
  where
    by : (zeroed : Bool) → is_zero y ≡ zeroed → ValueSound n (if zeroed || not (fits_i64 (int_div x y)) then Null else Int (int_rem x y))
    by true e = tt
    by false e = chosen_sound n (not (fits_i64 (int_div x y))) Null (Int (int_rem x y)) tt (remainder_fits x y e fits)

-- what an operator gives on two integers, the second of which has 64 bits, and null
ints_sound : (n : ℕ) (f : ℤ → ℤ → Value) → ((x y : ℤ) → FitsSigned w64 y → ValueSound n (f x y)) → (v w : Value) → ValueSound n w
    → ValueSound n (option_map_or (λ p. f p.0 p.1) (ints_of v w) Null)
ints_sound n f all (Int x) (Int y) sound = all x y sound
ints_sound n f all (Int x) Null sound = tt
ints_sound n f all (Int x) (Text b) sound = tt
ints_sound n f all (Int x) (Reference id) sound = tt
ints_sound n f all Null w sound = tt
ints_sound n f all (Text a) w sound = tt
ints_sound n f all (Reference id) w sound = tt

-- a joined text within the limit, or null
pair_sound : (n : ℕ) (a b : List ℕ) (test : Bool) → nat_le (length a + length b) text_limit ≡ test → IsUtf8 a → IsUtf8 b
    → ValueSound n (if test then Text (a ++ b) else Null)
pair_sound n a b true short first second = let bound = leb-true _ _ short in (rw (length-append a b) bound, IsUtf8-append a b first second)
pair_sound n a b false long first second = tt

joined_sound : (n : ℕ) (v w : Value) → ValueSound n v → ValueSound n w → ValueSound n (joined v w)
joined_sound n (Text a) (Text b) one other = pair_sound n a b (nat_le (length a + length b) text_limit) refl one.1 other.1
joined_sound n (Text a) Null one other = tt
joined_sound n (Text a) (Int y) one other = tt
joined_sound n (Text a) (Reference id) one other = tt
joined_sound n Null w one other = tt
joined_sound n (Int x) w one other = tt
joined_sound n (Reference id) w one other = tt

negated_sound : (n : ℕ) (v : Value) → ValueSound n (unary_of Negate v)
negated_sound n Null = tt
negated_sound n (Int x) = range_sound n (neg_ℤ x)
negated_sound n (Text a) = tt
negated_sound n (Reference id) = tt

-- the result of an operator
unary_sound : (n : ℕ) (op : UnaryOp) (v : Value) → ValueSound n (unary_of op v)
unary_sound n Negate v = negated_sound n v
unary_sound n Not v = truth_sound n _
unary_sound n IsNull v = truth_sound n _
unary_sound n IsNotNull v = truth_sound n _

binary_sound : (n : ℕ) (op : BinaryOp) (v w : Value) → ValueSound n v → ValueSound n w → ValueSound n (binary_of op v w)
binary_sound n Or v w one other = truth_sound n _
binary_sound n And v w one other = truth_sound n _
binary_sound n Equal v w one other = truth_sound n _
binary_sound n NotEqual v w one other = truth_sound n _
binary_sound n Less v w one other = truth_sound n _
binary_sound n LessOrEqual v w one other = truth_sound n _
binary_sound n Greater v w one other = truth_sound n _
binary_sound n GreaterOrEqual v w one other = truth_sound n _
binary_sound n Add v w one other = ints_sound n (λ x y. in_range (x +ℤ y)) (λ x y fits. range_sound n (x +ℤ y)) v w other
binary_sound n Subtract v w one other = ints_sound n (λ x y. in_range (x -ℤ y)) (λ x y fits. range_sound n (x -ℤ y)) v w other
binary_sound n Concat v w one other = joined_sound n v w one other
binary_sound n Multiply v w one other = ints_sound n (λ x y. in_range (x *ℤ y)) (λ x y fits. range_sound n (x *ℤ y)) v w other
binary_sound n Divide v w one other = ints_sound n quotient (λ x y fits. quotient_sound n x y) v w other
binary_sound n Remainder v w one other = ints_sound n remainder (remainder_sound n) v w other

-- the value at a place of a row, and null past its end
pub place_sound : (n : ℕ) (row : List Value) (place : ℕ) → ValuesSound n row → ValueSound n (unwrap_or (slice_get row place) Null)
place_sound n [] place sound = tt
place_sound n (v ∷ vs) zero sound = sound.0
place_sound n (v ∷ vs) (suc place) sound = place_sound n vs place sound.1

-- a sound expression has a sound value at a sound row
pub val_sound : (n : ℕ) (e : Term ℕ) (row : List Value) → TermSound n e → ValuesSound n row → ValueSound n (val e row)
unfolding val
val_sound n (Literal v) row closed sound = closed
val_sound n (Column place) row closed sound = place_sound n row place sound
val_sound n (Unary op t) row closed sound = unary_sound n op _
val_sound n (Binary op t u) row closed sound = binary_sound n op _ _ (val_sound n t row closed.0 sound) (val_sound n u row closed.1 sound)

-- a sound expression stays sound
pub term_more : (n k : ℕ) → n ≤ k → (e : Term ℕ) → TermSound n e → TermSound k e
term_more n k more (Literal v) sound = value_more n k more v sound
term_more n k more (Column place) sound = tt
term_more n k more (Unary op t) sound = term_more n k more t sound
term_more n k more (Binary op t u) sound = (term_more n k more t sound.0, term_more n k more u sound.1)
