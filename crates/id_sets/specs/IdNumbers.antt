-- Identifiers with their numbers.
use Rattle.std.specs.Prelude.{◌≡◌, ℕ, ◌==◌, List, [], ◌∷◌, Option, Some, None, if◌then◌else◌}

-- identifiers, each with its number
abbrev pub IdNumbers : Type 0
IdNumbers = List (ℕ × ℕ)

-- the number of an identifier
unfoldable pub number_of_id : IdNumbers → ℕ → Option ℕ
number_of_id [] id = None
number_of_id (e ∷ es) id = if id == e.0 then Some e.1 else number_of_id es id

-- with this number at the identifier, and at every other what was there
abbrev pub IsWithId : IdNumbers → ℕ → ℕ → IdNumbers → Type 0
IsWithId before id number now = (other : ℕ) → number_of_id now other ≡ (if id == other then Some number else number_of_id before other)
