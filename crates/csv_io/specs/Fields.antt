-- A value as a field, and a field as a value.
use Rattle.std.specs.Prelude.{◌^◌, ℕ, ℤ, pos, negsuc, Bool, List, [], ◌∷◌, nat_lt, ◌==◌, ◌&&◌, Option, Some, None, option_map, decimal, bytes_eq, if◌then◌else◌}
use Rattle.std.specs.Option.{option_or, unwrap_or}
use Rattle.std.specs.Fmt.{signed_decimal}
use Rattle.std.specs.Str.Parse.{digits_value, signed_digits_value}
use Rattle.par_base.specs.declared.value.Value.{Value}
use Rattle.par_base.specs.declared.value.Value.TheVariants.{Null, Int, Text, Reference}

-- the field of a value: no byte for null, `-12` for an integer, a text itself, `#7` for a reference
abbrev pub value_field : Value → List ℕ
value_field Null = []
value_field (Int number) = signed_decimal number
value_field (Text text) = text
value_field (Reference id) = 35 ∷ decimal id

-- ---- what a field is the text of

-- an integer of 64 bits, from -2^63 to 2^63 - 1
abbrev pub is_int : ℤ → Bool
is_int (pos n) = nat_lt n (2 ^ 63)
is_int (negsuc n) = nat_lt n (2 ^ 63)

-- the number, where it is an integer of 64 bits and the field is its decimal text
abbrev pub int_of : List ℕ → ℤ → Option ℤ
int_of field number = if bytes_eq field (signed_decimal number) && is_int number then Some number else None

-- the integer that the field is the decimal text of
abbrev pub int_in : List ℕ → Option ℤ
int_in field = int_of field (signed_digits_value 10 field)

-- the number, where it is below 2^64 and the digits are its decimal text
abbrev pub id_of : List ℕ → ℕ → Option ℕ
id_of digits number = if bytes_eq digits (decimal number) && nat_lt number (2 ^ 64) then Some number else None

-- the identifier that the digits are the decimal text of
abbrev pub id_in : List ℕ → Option ℕ
id_in digits = id_of digits (digits_value 10 digits)

-- the identifier that the field is the text of, after `#` (35)
abbrev pub reference_in : List ℕ → Option ℕ
reference_in [] = None
reference_in (byte ∷ digits) = if byte == 35 then id_in digits else None

-- ---- the value of a field

-- null where there is no byte, and else the text
abbrev pub plain_value : List ℕ → Value
plain_value [] = Null
plain_value (byte ∷ bytes) = Text (byte ∷ bytes)

-- the integer or the reference that the field is the text of
abbrev pub number_value : List ℕ → Option Value
number_value field = option_or (option_map Int (int_in field)) (option_map Reference (reference_in field))

-- such a number, and else null or the text itself
unfoldable pub field_value : List ℕ → Value
field_value field = unwrap_or (number_value field) (plain_value field)
