-- Tables with the rows of some identifiers alone.
use Rattle.std.specs.Prelude.{ℕ, List, map}
use Rattle.row_store.specs.Rows.{Rows, row_of}
use Rattle.op_law.specs.Tables.{Tables}
use Rattle.op_law.specs.Identifiers.{has_id}
use Rattle.op_law.specs.Meaning.{PairState}
use Rattle.op_rows.specs.Cells.{table_from}
use Rattle.pair_parts.specs.Parts.{memory_only}

-- each table with what it has at these identifiers
abbrev pub part_of : List ℕ → Tables → Tables
part_of ids tables = map (λ (t : Rows). table_from ids (row_of t)) tables

-- both sides with what they have there, and the memory with its entries of these
abbrev pub pair_part : List ℕ → PairState → PairState
pair_part ids p = record { source = part_of ids p.source; target = part_of ids p.target; memory = memory_only (has_id ids) p.memory }
