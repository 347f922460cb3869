-- One value more in a row, and one less.
use Rattle.std.specs.Prelude.{◌≡◌, ℕ, zero, suc, ◌<◌, ◌≤◌, List, [], ◌∷◌, length, slice_get, unwrap_or, refl}
use Rattle.std.proofs.Common.{ap, arith}
use Rattle.std.specs.List.{insert, remove}
use Rattle.par_base.specs.declared.value.Value.{Value}
use Rattle.par_base.specs.declared.value.Value.TheVariants.{Null}
use Rattle.op_law.specs.Sound.{ValueSound, ValuesSound}

-- the value at a place, and null past the row's end
abbrev pub value_at : ℕ → List Value → Value
value_at place row = unwrap_or (slice_get row place) Null

-- a value that was put in is there, and the row is the old one without it
pub value_at-insert : (row : List Value) (place : ℕ) (v : Value) → place ≤ length row → value_at place (insert row place v) ≡ v
value_at-insert [] zero v h = refl
value_at-insert [] (suc place) v h = absurd (omega arith)
value_at-insert (x ∷ xs) zero v h = refl
value_at-insert (x ∷ xs) (suc place) v h = value_at-insert xs place v (omega arith)

-- a value that was put in and taken away again
pub remove-insert : (row : List Value) (place : ℕ) (v : Value) → place ≤ length row → remove (insert row place v) place ≡ row
remove-insert [] zero v h = refl
remove-insert [] (suc place) v h = absurd (omega arith)
remove-insert (x ∷ xs) zero v h = refl
remove-insert (x ∷ xs) (suc place) v h = ap (λ (vs : List Value). x ∷ vs) (remove-insert xs place v (omega arith))

-- a value that was taken away and put back
pub insert-remove : (row : List Value) (place : ℕ) → place < length row → insert (remove row place) place (value_at place row) ≡ row
insert-remove [] place h = absurd (omega arith)
insert-remove (x ∷ xs) zero h = refl
insert-remove (x ∷ xs) (suc place) h = ap (λ (vs : List Value). x ∷ vs) (insert-remove xs place (omega arith))

-- sound values stay sound
pub insert_sound : (n : ℕ) (row : List Value) (place : ℕ) (v : Value) → ValuesSound n row → ValueSound n v → ValuesSound n (insert row place v)
insert_sound n [] zero v row_sound sound = (sound, tt)
insert_sound n [] (suc place) v row_sound sound = (sound, tt)
insert_sound n (x ∷ xs) zero v row_sound sound = (sound, row_sound)
insert_sound n (x ∷ xs) (suc place) v row_sound sound = (row_sound.0, insert_sound n xs place v row_sound.1 sound)

-- and what is left may stand
pub remove_sound : (n : ℕ) (row : List Value) (place : ℕ) → ValuesSound n row → ValuesSound n (remove row place)
remove_sound n [] zero sound = tt
remove_sound n [] (suc place) sound = tt
remove_sound n (x ∷ xs) zero sound = sound.1
remove_sound n (x ∷ xs) (suc place) sound = (sound.0, remove_sound n xs place sound.1)
