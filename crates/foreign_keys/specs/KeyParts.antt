-- The parts of rows: a row of R is an S part and a T part, and a row of S is its part and the foreign key.
use Rattle.std.specs.Prelude.{◌≡◌, ℕ, List, length}
use Rattle.par_base.specs.declared.value.Value.{Value}
use Rattle.op_law.specs.Sound.{ValueSound, ValuesSound}

-- how rows are taken apart and put together
pub record FkParts : Type 0 where
  -- the S part and the T part of a row of R, and the row of both
  pub first : List Value → List Value
  pub second : List Value → List Value
  pub join : List Value → List Value → List Value
  pub null_first : List Value
  pub null_second : List Value
  -- the row of S with this part and this foreign key, the part and the key of a row of S
  pub put : List Value → Value → List Value
  pub part : List Value → List Value
  pub key : List Value → Value

-- the parts fit: R has w columns, the S part a, the T part b, and S has z
pub record FkWell (k : FkParts) (w a b z : ℕ) : Type 0 where
  pub first_join : (x y : List Value) → length x ≡ a → length y ≡ b → k.first (k.join x y) ≡ x
  pub second_join : (x y : List Value) → length x ≡ a → length y ≡ b → k.second (k.join x y) ≡ y
  pub join_parts : (v : List Value) → length v ≡ w → k.join (k.first v) (k.second v) ≡ v
  pub long_first : (v : List Value) → length v ≡ w → length (k.first v) ≡ a
  pub long_second : (v : List Value) → length v ≡ w → length (k.second v) ≡ b
  pub long_join : (x y : List Value) → length x ≡ a → length y ≡ b → length (k.join x y) ≡ w
  pub long_null_first : length k.null_first ≡ a
  pub long_null_second : length k.null_second ≡ b
  pub part_put : (x : List Value) (f : Value) → length x ≡ a → k.part (k.put x f) ≡ x
  pub key_put : (x : List Value) (f : Value) → length x ≡ a → k.key (k.put x f) ≡ f
  pub put_parts : (v : List Value) → length v ≡ z → k.put (k.part v) (k.key v) ≡ v
  pub long_put : (x : List Value) (f : Value) → length x ≡ a → length (k.put x f) ≡ z
  pub long_part : (v : List Value) → length v ≡ z → length (k.part v) ≡ a
  pub sound_first : (n : ℕ) (v : List Value) → ValuesSound n v → ValuesSound n (k.first v)
  pub sound_second : (n : ℕ) (v : List Value) → ValuesSound n v → ValuesSound n (k.second v)
  pub sound_join : (n : ℕ) (x y : List Value) → ValuesSound n x → ValuesSound n y → ValuesSound n (k.join x y)
  pub sound_put : (n : ℕ) (x : List Value) (f : Value) → ValuesSound n x → ValueSound n f → ValuesSound n (k.put x f)
  pub sound_part : (n : ℕ) (v : List Value) → ValuesSound n v → ValuesSound n (k.part v)
  pub sound_key : (n : ℕ) (v : List Value) → ValuesSound n v → ValueSound n (k.key v)
  pub sound_null_first : (n : ℕ) → ValuesSound n k.null_first
  pub sound_null_second : (n : ℕ) → ValuesSound n k.null_second
