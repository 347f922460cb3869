-- JOIN ON FK, from R: which identifiers are closed, and that they are a footprint.
use Rattle.std.specs.Prelude.{◌≡◌, ℕ, ◌-◌, Bool, true, List, Some, None}
use Rattle.par_base.specs.declared.value.Value.{Value}
use Rattle.row_store.specs.Rows.{Rows, row_of}
use Rattle.op_law.specs.Meaning.{PairState, flip}
use Rattle.op_law.specs.Identifiers.{has_id, IdsRise}
use Rattle.op_tables.specs.SideTables.{first_table, second_table}
use Rattle.row_changes.specs.Changed.{TableChanges, changed_tables}
use Rattle.row_changes.specs.Touched.{EachPass}
use Rattle.operator_changes.specs.Calls.{MayChange}
use Rattle.operator_changes.specs.Footprint.{IsFootprint, passes}
use Rattle.foreign_keys.specs.KeyParts.{FkParts}
use Rattle.op_fk_join.specs.Join.{first_with, key_kept}
use Rattle.op_fk_join.specs.Columns.{side_parts, join_columns}
use Rattle.fk_footprints.specs.Closed.{BringsGoals}

-- a row of new R that passes and doesn't keep a key brings the least row of T that has its T part, where there is one
abbrev pub BringsLeast : FkParts → (ℕ → Bool) → Rows → Rows → Rows → Type 0
BringsLeast k P near s t = (p : ℕ) (row : List Value) (q : ℕ) → P p ≡ true → row_of near p ≡ Some row → key_kept k (row_of s p) t (k.second row) ≡ None → first_with t (k.second row) ≡ Some q → P q ≡ true

-- all that changes, for each row that doesn't keep a key the least row of T with its T part, and what the old rows of S refer to
pub record IsClosedJoinBack (k : FkParts) (near : TableChanges) (p : PairState) (n : ℕ) (ids : List ℕ) : Type 0 where
  pub rise : IdsRise 0 ids
  pub touches : EachPass (has_id ids) near
  pub goals : BringsGoals k (passes ids n) (first_table p.target) (second_table p.target)
  pub least : BringsLeast k (passes ids n) (first_table (changed_tables p.source near)) (first_table p.target) (second_table p.target)

-- such identifiers are a footprint
abbrev pub ClosedIsJoinBackFootprint : Type 0
ClosedIsJoinBackFootprint = (first second place : ℕ) (near : TableChanges) (p : PairState) (n : ℕ) (ids : List ℕ) → MayChange (flip (join_columns first second place)) near p n
    → IsClosedJoinBack (side_parts (first - 1) second place) near p n ids → IsFootprint (flip (join_columns first second place)) near p n ids
