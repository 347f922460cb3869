-- What is there before rows are placed.
use Rattle.std.proofs.Common.{◌≡◌, ℕ, refl}
use Rattle.row_store.specs.Rows.{Rows}
use Rattle.id_memory.specs.Pairs.{Pairs}
use Rattle.pair_rows.specs.Halves.{first_of, second_of}
use Rattle.pair_rows.specs.Given.{kept_in}
use Rattle.outer_law.specs.Placed.{beginning, full, standing}
use Rattle.outer_entries.specs.declared.placing.Placing.{Placing as State}
use Rattle.outer_entries.specs.Placings.{placing_of}

-- what is there before rows are placed
pub start_from : (s t r new : Rows) (m whole : Pairs) (it : State) → it.first.all.rows ≡ s → it.second.all.rows ≡ t → it.first.shared.table.rows ≡ standing first_of whole s → it.second.shared.table.rows ≡ standing second_of whole t
    → it.taken.entries ≡ kept_in r m new → whole ≡ full (kept_in r m new) → (n : ℕ) → placing_of it n ≡ beginning s t r m new n
start_from s t r new m whole it first second first_shared second_shared kept all n = rw (first, second, first_shared, second_shared, kept, all) refl
