-- The identifiers of tables, ascending, each once.
use Rattle.std.specs.Prelude.{◌≡◌, ◌↔◌, ℕ, ◌+◌, ◌≤◌, ◌==◌, nat_lt, Bool, true, false, List, [], ◌∷◌, if◌then◌else◌}
use Rattle.row_store.specs.Rows.{Rows}
use Rattle.op_law.specs.Tables.{Tables}
use Rattle.op_law.specs.Sound.{HasRow}

-- an identifier put in its place among ascending ones, where it isn't there
abbrev pub put_id : ℕ → List ℕ → List ℕ
put_id id [] = id ∷ []
put_id id (x ∷ xs) = if nat_lt id x then id ∷ x ∷ xs else if id == x then x ∷ xs else x ∷ put_id id xs

-- the identifiers of a table, beside these
abbrev pub ids_in : Rows → List ℕ → List ℕ
ids_in [] ids = ids
ids_in (r ∷ rs) ids = put_id r.0 (ids_in rs ids)

-- the identifiers of some tables, beside these
abbrev pub ids_over : Tables → List ℕ → List ℕ
ids_over [] ids = ids
ids_over (t ∷ ts) ids = ids_over ts (ids_in t ids)

-- whether a list has the identifier
abbrev pub has_id : List ℕ → ℕ → Bool
has_id [] id = false
has_id (x ∷ xs) id = if x == id then true else has_id xs id

-- the identifiers rise strictly, and begin at n or above
abbrev pub IdsRise : ℕ → List ℕ → Type 0
IdsRise n [] = Unit {0}
IdsRise n (x ∷ xs) = (n ≤ x) × IdsRise (x + 1) xs

-- the identifiers of any tables rise strictly, so none stands twice
abbrev pub NoneStandsTwice : Type 0
NoneStandsTwice = (tables : Tables) → IdsRise 0 (ids_over tables [])

-- they are those that have a row in some table
abbrev pub AllWithRows : Type 0
AllWithRows = (tables : Tables) (id : ℕ) → (has_id (ids_over tables []) id ≡ true) ↔ HasRow id tables
