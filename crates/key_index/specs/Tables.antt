-- The keys of a table in some of its columns, and the keys that refer to a row.
use Rattle.std.specs.Prelude.{ℕ, suc, ◌<◌, ◌==◌, Bool, false, List, [], ◌∷◌, length, map, slice_index_or, if◌then◌else◌}
use Rattle.par_base.specs.declared.value.Value.{Value}
use Rattle.par_base.specs.declared.value.Value.TheVariants.{Null, Int, Text, Reference}
use Rattle.row_store.specs.Rows.{Rows}

-- each of these columns is one of a row of so many values
abbrev pub AreWithin : List ℕ → ℕ → Type 0
AreWithin [] n = Unit {0}
AreWithin (column ∷ columns) n = (column < n) × AreWithin columns n

-- each row has these columns
abbrev pub HaveColumns : List ℕ → Rows → Type 0
HaveColumns columns [] = Unit {0}
HaveColumns columns (r ∷ rs) = AreWithin columns (length r.1) × HaveColumns columns rs

-- the values of a row in these columns
abbrev pub key_in : List ℕ → List Value → List Value
key_in columns row = map (λ column. slice_index_or row column Null) columns

-- the keys of a table in these columns, by identifier
abbrev pub keys_in : List ℕ → Rows → Rows
keys_in columns rows = map (λ r. (r.0, key_in columns r.1)) rows

-- the first value of the key is the reference to this identifier
abbrev pub refers_to : List Value → ℕ → Bool
refers_to [] id = false
refers_to (Reference m ∷ vs) id = m == id
refers_to (Null ∷ vs) id = false
refers_to (Int number ∷ vs) id = false
refers_to (Text bytes ∷ vs) id = false

-- how many keys refer to this identifier
abbrev pub refs_to : Rows → ℕ → ℕ
refs_to [] id = 0
refs_to (r ∷ rs) id = if refers_to r.1 id then suc (refs_to rs id) else refs_to rs id
