-- Values and rows are the same exactly where they are equal.
use Rattle.std.specs.Prelude.{◌≡◌, List, [], ◌∷◌, true, refl}
use Rattle.std.proofs.lemmas.Bool.{and_parts, eqb-true, eq-eqb, false≢true}
use Rattle.std.proofs.lemmas.Bool.Decides.{Decides-int_eq}
use Rattle.std.proofs.lemmas.Slice.Eq.{bytes_eq-Decides}
use Rattle.std.proofs.Common.{ap}
use Rattle.par_base.specs.declared.value.Value.{Value}
use Rattle.par_base.specs.declared.value.Value.TheVariants.{Null, Int, Text, Reference}
use Rattle.par_base.specs.SameRows.{same_value, same_row}

-- such values and rows are equal
pub value_equal : (v w : Value) → same_value v w ≡ true → v ≡ w
value_equal Null Null e = refl
value_equal (Int x) (Int y) e = ap Int ((Decides-int_eq x y).0 e)
value_equal (Text a) (Text b) e = ap Text ((bytes_eq-Decides a b).0 e)
value_equal (Reference m) (Reference n) e = ap Reference (eqb-true m n e)
value_equal Null (Int y) e = absurd (false≢true e)
value_equal Null (Text b) e = absurd (false≢true e)
value_equal Null (Reference n) e = absurd (false≢true e)
value_equal (Int x) Null e = absurd (false≢true e)
value_equal (Int x) (Text b) e = absurd (false≢true e)
value_equal (Int x) (Reference n) e = absurd (false≢true e)
value_equal (Text a) Null e = absurd (false≢true e)
value_equal (Text a) (Int y) e = absurd (false≢true e)
value_equal (Text a) (Reference n) e = absurd (false≢true e)
value_equal (Reference m) Null e = absurd (false≢true e)
value_equal (Reference m) (Int y) e = absurd (false≢true e)
value_equal (Reference m) (Text b) e = absurd (false≢true e)

-- rows with the same values are equal
pub row_equal : (a b : List Value) → same_row a b ≡ true → a ≡ b
unfolding same_row
row_equal [] [] e = refl
row_equal [] (w ∷ ws) e = absurd (false≢true e)
row_equal (v ∷ vs) [] e = absurd (false≢true e)
row_equal (v ∷ vs) (w ∷ ws) e =
    let both = and_parts (same_value v w) (same_row vs ws) e in
    let head = value_equal v w both.0 in
    let tail = row_equal vs ws both.1 in
    cc

-- a value is the same as itself, and so is a row
pub value_same : (v : Value) → same_value v v ≡ true
value_same Null = refl
value_same (Int x) = (Decides-int_eq x x).1 refl
value_same (Text a) = (bytes_eq-Decides a a).1 refl
value_same (Reference m) = eq-eqb m m refl

-- a row has the same values as itself
pub row_same : (vs : List Value) → same_row vs vs ≡ true
unfolding same_row
row_same [] = refl
row_same (v ∷ vs) = rw (value_same v, row_same vs) refl
