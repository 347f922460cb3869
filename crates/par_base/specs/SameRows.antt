-- Equal values and equal rows.
use Rattle.std.specs.Prelude.{List, [], ◌∷◌, Bool, true, false, ◌&&◌, ◌==◌}
use Rattle.std.specs.Ordering.{int_eq}
use Rattle.std.specs.Str.{bytes_eq}
use Rattle.par_base.specs.declared.value.Value.{Value}
use Rattle.par_base.specs.declared.value.Value.TheVariants.{Null, Int, Text, Reference}

-- the values are of one kind and equal
abbrev pub same_value : Value → Value → Bool
same_value Null Null = true
same_value (Int x) (Int y) = int_eq x y
same_value (Text a) (Text b) = bytes_eq a b
same_value (Reference m) (Reference n) = m == n
same_value _ _ = false

-- the rows have as many values, each the same
unfoldable pub same_row : List Value → List Value → Bool
same_row [] [] = true
same_row (v ∷ vs) (w ∷ ws) = same_value v w && same_row vs ws
same_row [] (w ∷ ws) = false
same_row (v ∷ vs) [] = false
