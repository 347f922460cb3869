-- The entries with both halves whose rows stay, and the rows that stand in them.
use Rattle.std.specs.Prelude.{ℕ, ◌==◌, Bool, true, false, cond, List, [], ◌∷◌, not, Some, None}
use Rattle.row_store.specs.declared.change.Change.{Change}
use Rattle.row_store.specs.Rows.{Rows}
use Rattle.id_memory.specs.Pairs.{Pairs}
use Rattle.par_base.specs.SameRows.{same_row}
use Rattle.op_law.specs.Identifiers.{has_id}
use Rattle.row_parts.specs.RowCells.{Cell}
use Rattle.pair_rows.specs.declared.half.Half.{Half}
use Rattle.pair_rows.specs.Halves.{pick_of}
use Rattle.pair_parts.specs.Parts.{memory_only}
use Rattle.outer_law.specs.Placed.{full, standing}

-- both rows are there, with the same values
abbrev pub same_cells : Cell → Cell → Bool
same_cells None new = false
same_cells (Some old) None = false
same_cells (Some old) (Some new) = same_row old new

-- with a change that doesn't leave the row, its identifier besides the others
abbrev pub or_replaced : Change → ℕ → Bool → Bool
or_replaced c q others = cond (same_cells c.old c.new) others (cond (c.id == q) true others)

-- whether a change names the identifier and doesn't leave its row
abbrev pub is_replaced : List Change → ℕ → Bool
is_replaced [] q = false
is_replaced (c ∷ cs) q = or_replaced c q (is_replaced cs q)

-- the entries with both halves of identifiers that aren't replaced
abbrev pub shared_in : Pairs → List ℕ → Pairs
shared_in m replaced = full (memory_only (λ i. not (has_id replaced i)) m)

-- the rows of a table that stand in one of them as this half
abbrev pub shared_rows : Half → Pairs → List ℕ → Rows → Rows
shared_rows half m replaced rows = standing (pick_of half) (shared_in m replaced) rows
