-- The values for which identifiers are drawn: by first use, each once.
use Rattle.std.specs.Prelude.{◌≡◌, ℕ, ◌+◌, List, [], ◌∷◌, Bool, true, false, cond, Option, Some, None}
use Rattle.par_base.specs.declared.value.Value.{Value}
use Rattle.row_store.specs.Rows.{Rows}
use Rattle.foreign_keys.specs.KeyParts.{FkParts}
use Rattle.par_base.specs.SameRows.{same_row}

-- values, each as long as a T part
abbrev pub Values : Type 0
Values = List (List Value)

-- the values as rows, under identifiers from n on
abbrev pub numbered : ℕ → List (List Value) → Rows
numbered n [] = []
numbered n (v ∷ vs) = (n, v) ∷ numbered (n + 1) vs

-- a value at the end, where it isn't there
abbrev pub add_once : List Value → List (List Value) → List (List Value)
add_once v [] = v ∷ []
add_once v (x ∷ xs) = cond (same_row x v) (x ∷ xs) (x ∷ add_once v xs)

-- whether the value is there
abbrev pub has : List (List Value) → List Value → Bool
has [] v = false
has (x ∷ xs) v = cond (same_row x v) true (has xs v)

-- how many values stand before this one
abbrev pub place : List (List Value) → List Value → ℕ
place [] v = 0
place (x ∷ xs) v = cond (same_row x v) 0 (place xs v + 1)

-- the T parts of the rows that need an identifier, beside those seen
abbrev pub drawn : (k : FkParts) → (ℕ → List Value → Bool) → List (List Value) → Rows → List (List Value)
drawn k needs seen [] = seen
drawn k needs seen (r ∷ rs) = drawn k needs (cond (needs r.0 r.1) (add_once (k.second r.1) seen) seen) rs

-- how many values stand before this one, where it is there
abbrev pub place_if : List (List Value) → List Value → Option ℕ
place_if values v = cond (has values v) (Some (place values v)) None

-- each value stands at its place
abbrev pub ArePlaced : List (List Value) → Rows → Type 0
ArePlaced values places = places ≡ numbered 0 values
