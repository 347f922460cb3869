-- What is kept of the source where the target is stored, and the source read back.
use Rattle.std.specs.Prelude.{ℕ, ◌==◌, List, [], ◌∷◌, filter, not, Option, Some, None, if◌then◌else◌}
use Rattle.row_store.specs.Rows.{Rows, row_of}
use Rattle.id_memory.specs.Pairs.{Pairs}
use Rattle.op_law.specs.Identifiers.{put_id, ids_in}
use Rattle.op_rows.specs.Cells.{table_from}
use Rattle.row_parts.specs.Places.{pick as part}
use Rattle.row_parts.specs.RowCells.{Cell, map_cell, or_else}
use Rattle.pair_rows.specs.Stays.{stands}

-- the rows in no pair
abbrev pub alone : (ℕ × ℕ × ℕ → ℕ) → Pairs → Rows → Rows
alone pick m rows = filter (λ r. not (stands pick m r.0)) rows

-- the part of the joined row of a pair with this identifier
abbrev pub paired : (ℕ × ℕ × ℕ → ℕ) → List ℕ → Rows → Pairs → ℕ → Cell
paired pick places r [] id = None
paired pick places r (e ∷ es) id = if pick e == id then map_cell (part places) (row_of r e.0) else paired pick places r es id

-- the identifier of the first joined row whose pair has this identifier
abbrev pub partner : (ℕ × ℕ × ℕ → ℕ) → Pairs → ℕ → Option ℕ
partner pick [] id = None
partner pick (e ∷ es) id = if pick e == id then Some e.0 else partner pick es id

-- the part of the joined row of this identifier, where there is one
abbrev pub part_at : List ℕ → Rows → Option ℕ → Cell
part_at places r None = None
part_at places r (Some p) = map_cell (part places) (row_of r p)

-- the identifiers in pairs, beside these
abbrev pub ids_paired : (ℕ × ℕ × ℕ → ℕ) → Pairs → List ℕ → List ℕ
ids_paired pick [] ids = ids
ids_paired pick (e ∷ es) ids = put_id (pick e) (ids_paired pick es ids)

-- the rows in no pair, and those that the joined rows have as their parts
abbrev pub side_read : (ℕ × ℕ × ℕ → ℕ) → List ℕ → Rows → Pairs → Rows → Rows
side_read pick places r m aux = table_from (ids_paired pick m (ids_in aux [])) (λ id. or_else (row_of aux id) (paired pick places r m id))
