-- Going over an ascending list and the rows of a table in order.
use Rattle.std.specs.Prelude.{◌≡◌, ℕ, ◌+◌, ◌<◌, ◌≤◌, List, ◌∷◌, ◌++◌, length, drop, slice_index_or}
use Rattle.row_store.specs.Rows.{Rows, RiseFrom}
use Rattle.op_law.specs.Identifiers.{put_id, ids_in}
use Rattle.op_rows.specs.inner.CellLemmas.{IdsRise}

-- the list has an identifier below this one at the place
abbrev pub IsBelowAt : List ℕ → ℕ → ℕ → Type 0
IsBelowAt ids at id = (at < length ids) × (slice_index_or ids at 0 < id)

-- what the list had from a place on stands behind the others as far as it is below the identifier
abbrev pub AddsBelow : List ℕ → List ℕ → ℕ → ℕ → ℕ → List ℕ → Type 0
AddsBelow all ids from id to now = (to ≤ length ids) × IdsRise id (drop to ids) × ((rows : Rows) → RiseFrom id rows → all ++ ids_in rows (drop from ids) ≡ now ++ ids_in rows (drop to ids))

-- the list without the identifier that may be its first
abbrev pub IsBehind : ℕ → List ℕ → List ℕ → Type 0
IsBehind id ids rest = (rows : Rows) → RiseFrom (id + 1) rows → put_id id (ids_in rows ids) ≡ id ∷ ids_in rows rest

-- the same, and the identifier of a row behind that
abbrev pub AddsRow : List ℕ → List ℕ → ℕ → ℕ → ℕ → List ℕ → Type 0
AddsRow all ids from id to now = (to ≤ length ids) × ((rows : Rows) → RiseFrom (id + 1) rows → all ++ put_id id (ids_in rows (drop from ids)) ≡ now ++ ids_in rows (drop to ids))
