-- What a reader of an old pair answers for.
use Rattle.std.specs.Prelude.{ℕ, zero, suc, [], ◌∷◌, Bool, true, false}
use Rattle.row_store.specs.Rows.{Rows}
use Rattle.op_law.specs.Tables.{Tables}
use Rattle.op_law.specs.Meaning.{PairState}

-- the pair of two sides without a memory
abbrev pub of_sides : Tables → Tables → PairState
of_sides source target = record { source = source; target = target; memory = [] }

-- one side of a pair
abbrev pub side_at : Bool → PairState → Tables
side_at false p = p.source
side_at true p = p.target

-- one of the tables: without rows where there is none
abbrev pub table_at : Tables → ℕ → Rows
table_at [] which = []
table_at (t ∷ ts) zero = t
table_at (t ∷ ts) (suc which) = table_at ts which
