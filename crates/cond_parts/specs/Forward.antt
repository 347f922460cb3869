-- JOIN ON a condition, from S and T: which identifiers are closed, and that they are a footprint.
use Rattle.std.specs.Prelude.{◌≡◌, ℕ, Bool, true, List, ◌||◌, Some}
use Rattle.row_store.specs.Rows.{Rows}
use Rattle.id_memory.specs.Pairs.{Pairs, pair_of}
use Rattle.op_law.specs.Identifiers.{has_id, IdsRise}
use Rattle.op_law.specs.Meaning.{PairState}
use Rattle.row_changes.specs.Changed.{TableChanges, changed_tables}
use Rattle.row_changes.specs.Touched.{EachPass, touched}
use Rattle.operator_changes.specs.Calls.{MayChange}
use Rattle.operator_changes.specs.Footprint.{IsFootprint, passes}
use Rattle.pair_rows.specs.Shown.{Joining, matches}
use Rattle.pair_rows.specs.Sides.{table_at}
use Rattle.op_cond_join.specs.JoinOn.{join_on}
use Rattle.cond_parts.specs.Closed.{BringsRows}

-- CLOSED FOR CHANGES OF S AND T, of which the rows at C are changed: an identifier of an entry brings both rows of it, a changed row brings its entries, and the rows of the other new table that match it
pub record BringsShown (j : Joining) (C P : ℕ → Bool) (m : Pairs) (s t : Rows) : Type 0 where
  pub rows : BringsRows P m
  pub entries : (id a b : ℕ) → pair_of m id ≡ Some (a, b) → (C a || C b) ≡ true → P id ≡ true
  pub first : (a b : ℕ) → C a ≡ true → matches j s t a b ≡ true → P b ≡ true
  pub second : (a b : ℕ) → C b ≡ true → matches j s t a b ≡ true → P a ≡ true

-- identifiers that are closed for changes of S and T
pub record IsClosedForward (j : Joining) (near : TableChanges) (p : PairState) (n : ℕ) (ids : List ℕ) : Type 0 where
  pub rise : IdsRise 0 ids
  pub touches : EachPass (has_id ids) near
  pub brings : BringsShown j (has_id (touched near)) (passes ids n) p.memory (table_at 0 (changed_tables p.source near)) (table_at 1 (changed_tables p.source near))

-- such identifiers are a footprint
abbrev pub ClosedIsForwardFootprint : Type 0
ClosedIsForwardFootprint = (j : Joining) (near : TableChanges) (p : PairState) (n : ℕ) (ids : List ℕ) → MayChange (join_on j) near p n → IsClosedForward j near p n ids → IsFootprint (join_on j) near p n ids
