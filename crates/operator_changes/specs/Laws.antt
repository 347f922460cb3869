-- The law of footprints.
use Rattle.std.specs.Prelude.{◌≡◌, ℕ, []}
use Rattle.op_law.specs.Meaning.{Meaning, PairState}
use Rattle.operator_changes.specs.Calls.{MayChange}
use Rattle.row_changes.specs.Changed.{TableChanges, changed_tables}
use Rattle.operator_changes.specs.Footprint.{IsFootprint, whole_ids}

-- all identifiers together are a footprint, whatever the operator, where there is no memory
abbrev pub WholeIsFootprint : Meaning → Type 0
WholeIsFootprint m = (near : TableChanges) (p : PairState) (n : ℕ) → MayChange m near p n → p.memory ≡ [] → (m.forward (changed_tables p.source near) p n).memory ≡ [] → IsFootprint m near p n (whole_ids near p)
