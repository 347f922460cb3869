-- DECOMPOSE ON FK, from R: which identifiers are closed, and that they are a footprint.
use Rattle.std.specs.Prelude.{◌≡◌, ℕ, Bool, true, false, List, Some, None}
use Rattle.par_base.specs.declared.value.Value.{Value}
use Rattle.par_base.specs.SameRows.{same_row}
use Rattle.row_store.specs.Rows.{Rows, row_of}
use Rattle.op_law.specs.Meaning.{PairState}
use Rattle.op_law.specs.Identifiers.{has_id, IdsRise}
use Rattle.op_tables.specs.SideTables.{first_table, second_table}
use Rattle.row_changes.specs.Changed.{TableChanges, changed_tables}
use Rattle.row_changes.specs.Touched.{EachPass}
use Rattle.operator_changes.specs.Calls.{MayChange}
use Rattle.operator_changes.specs.Footprint.{IsFootprint, passes}
use Rattle.foreign_keys.specs.KeyParts.{FkParts}
use Rattle.op_fk_decompose.specs.Columns.{column_parts, decompose_columns}
use Rattle.op_fk_decompose.specs.Decompose.{how, least_in}
use Rattle.fk_footprints.specs.Closed.{BringsGoals, BringsWitness}

-- a row of new R that passes, is to get a key, and whose T part isn't null brings the least row of T that has it and isn't alone, where there is one
abbrev pub BringsShared : FkParts → (ℕ → Bool) → Rows → Rows → Rows → Type 0
BringsShared k P near s t = (p : ℕ) (row : List Value) (q : ℕ) → P p ≡ true → row_of near p ≡ Some row → how k s t p row ≡ Some None → same_row (k.second row) k.null_second ≡ false → least_in k s t t (k.second row) ≡ Some q → P q ≡ true

-- all that changes, for each row that is to get a key the least row of T that may be shared, what the old rows of S refer to, and a row that stays for each row of T to which others refer
pub record IsClosedDecompose (k : FkParts) (near : TableChanges) (p : PairState) (n : ℕ) (ids : List ℕ) : Type 0 where
  pub rise : IdsRise 0 ids
  pub touches : EachPass (has_id ids) near
  pub goals : BringsGoals k (passes ids n) (first_table p.target) (second_table p.target)
  pub witness : BringsWitness k (passes ids n) (first_table p.target) (second_table p.target) (first_table p.source) (first_table (changed_tables p.source near))
  pub least : BringsShared k (passes ids n) (first_table (changed_tables p.source near)) (first_table p.target) (second_table p.target)

-- such identifiers are a footprint
abbrev pub ClosedIsDecomposeFootprint : Type 0
ClosedIsDecomposeFootprint = (first second : List ℕ) (place : ℕ) (near : TableChanges) (p : PairState) (n : ℕ) (ids : List ℕ) → MayChange (decompose_columns first second place) near p n
    → IsClosedDecompose (column_parts first second place) near p n ids → IsFootprint (decompose_columns first second place) near p n ids
