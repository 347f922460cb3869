-- What each operator gives on values.
use Rattle.std.specs.Prelude.{ℕ, ◌+◌, ◌^◌, ℤ, pos, negsuc, ◌+ℤ◌, ◌-ℤ◌, ◌*ℤ◌, neg_ℤ, int_div, int_rem, Bool, true, false, not, ◌&&◌, ◌||◌, ◌++◌, length, nat_lt, nat_le, ◌==◌, if◌then◌else◌, Option, Some, None}
use Rattle.std.specs.Option.{option_map_or}
use Rattle.std.specs.declared.cmp.Ordering.{Ordering}
use Rattle.std.specs.Ordering.{int_cmp, nat_cmp, is_eq, is_ne, is_lt, is_le, is_gt, is_ge}
use Rattle.std.specs.Cmp.Lexicographic.{slice_cmp}
use Rattle.par_base.specs.declared.value.Value.{Value}
use Rattle.par_base.specs.declared.value.Value.TheVariants.{Null, Int, Text, Reference}
use Rattle.expr_lang.specs.declared.tree.UnaryOp.{UnaryOp}
use Rattle.expr_lang.specs.declared.tree.UnaryOp.TheVariants.{Negate, Not, IsNull, IsNotNull}
use Rattle.expr_lang.specs.declared.tree.BinaryOp.{BinaryOp}
use Rattle.expr_lang.specs.declared.tree.BinaryOp.TheVariants.{Or, And, Equal, NotEqual, Less, LessOrEqual, Greater, GreaterOrEqual, Add, Subtract, Concat, Multiply, Divide, Remainder}

-- the number is an i64
abbrev pub fits_i64 : ℤ → Bool
fits_i64 (pos n) = nat_lt n (2 ^ 63)
fits_i64 (negsuc n) = nat_lt n (2 ^ 63)

-- the integer, or null where it is out of range
abbrev pub in_range : ℤ → Value
in_range z = if fits_i64 z then Int z else Null

-- the integer is 0
abbrev pub is_zero : ℤ → Bool
is_zero (pos n) = n == 0
is_zero (negsuc n) = false

-- 1 or 0
abbrev pub truth : Bool → Value
truth b = if b then Int (pos 1) else Int (pos 0)

-- the value is null
abbrev pub is_null : Value → Bool
is_null Null = true
is_null (Int z) = false
is_null (Text bytes) = false
is_null (Reference id) = false

-- a condition with this value holds: it is an integer other than 0
abbrev pub is_true : Value → Bool
is_true Null = false
is_true (Int z) = not (is_zero z)
is_true (Text bytes) = false
is_true (Reference id) = false

-- both operands, where they are integers
abbrev pub ints_of : Value → Value → Option (ℤ × ℤ)
ints_of (Int x) (Int y) = Some (x, y)
ints_of _ _ = None

-- the result on two integers, and null for operands of another kind
abbrev pub on_ints : (ℤ → ℤ → Value) → Value → Value → Value
on_ints f v w = option_map_or (λ p. f p.0 p.1) (ints_of v w) Null

-- a quotient is cut toward zero; a zero divisor gives null
abbrev pub quotient : ℤ → ℤ → Value
quotient x y = if is_zero y then Null else in_range (int_div x y)

-- a remainder has the sign of the dividend, and is null where there is no quotient in range
abbrev pub remainder : ℤ → ℤ → Value
remainder x y = if is_zero y || not (fits_i64 (int_div x y)) then Null else Int (int_rem x y)

-- how two integers, two texts by their bytes or two references by their numbers compare
abbrev pub comparison_of : Value → Value → Option Ordering
comparison_of (Int x) (Int y) = Some (int_cmp x y)
comparison_of (Text a) (Text b) = Some (slice_cmp nat_cmp a b)
comparison_of (Reference m) (Reference n) = Some (nat_cmp m n)
comparison_of _ _ = None

-- 1 where the two compare and pass; with null and between unlike kinds 0
abbrev pub compared : (Ordering → Bool) → Value → Value → Value
compared passes v w = truth (option_map_or passes (comparison_of v w) false)

-- the greatest number of bytes that `||` gives
abbrev pub text_limit : ℕ
text_limit = 65536

-- two texts joined; another operand, or too long a result, gives null
abbrev pub joined : Value → Value → Value
joined (Text a) (Text b) = if nat_le (length a + length b) text_limit then Text (a ++ b) else Null
joined _ _ = Null

-- the result of an operator at one value
abbrev pub unary_of : UnaryOp → Value → Value
unary_of Negate (Int x) = in_range (neg_ℤ x)
unary_of Negate _ = Null
unary_of Not v = truth (not (is_true v))
unary_of IsNull v = truth (is_null v)
unary_of IsNotNull v = truth (not (is_null v))

-- the result of an operator between two values
abbrev pub binary_of : BinaryOp → Value → Value → Value
binary_of Or v w = truth (is_true v || is_true w)
binary_of And v w = truth (is_true v && is_true w)
binary_of Equal v w = compared is_eq v w
binary_of NotEqual v w = compared is_ne v w
binary_of Less v w = compared is_lt v w
binary_of LessOrEqual v w = compared is_le v w
binary_of Greater v w = compared is_gt v w
binary_of GreaterOrEqual v w = compared is_ge v w
binary_of Add v w = on_ints (λ x y. in_range (x +ℤ y)) v w
binary_of Subtract v w = on_ints (λ x y. in_range (x -ℤ y)) v w
binary_of Concat v w = joined v w
binary_of Multiply v w = on_ints (λ x y. in_range (x *ℤ y)) v w
binary_of Divide v w = on_ints quotient v w
binary_of Remainder v w = on_ints remainder v w
