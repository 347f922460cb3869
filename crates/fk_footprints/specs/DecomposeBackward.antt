-- DECOMPOSE ON FK, from S and T: which identifiers are closed, and that they are a footprint.
use Rattle.std.specs.Prelude.{ℕ, List}
use Rattle.op_law.specs.Meaning.{PairState, flip}
use Rattle.op_law.specs.Identifiers.{has_id, IdsRise}
use Rattle.op_tables.specs.SideTables.{first_table, second_table}
use Rattle.row_changes.specs.Changed.{TableChanges, changed_tables}
use Rattle.row_changes.specs.Touched.{EachPass}
use Rattle.operator_changes.specs.Calls.{MayChange}
use Rattle.operator_changes.specs.Footprint.{IsFootprint, passes}
use Rattle.foreign_keys.specs.KeyParts.{FkParts}
use Rattle.op_fk_decompose.specs.Columns.{column_parts, decompose_columns}
use Rattle.fk_footprints.specs.Closed.{BringsGoals, BringsWitness, SeesNoChange}

-- all that changes, the rows of S that refer to it, what these refer to, before and after, and a row that stays for each row of T to which others refer
pub record IsClosedDecomposeBack (k : FkParts) (near : TableChanges) (p : PairState) (n : ℕ) (ids : List ℕ) : Type 0 where
  pub rise : IdsRise 0 ids
  pub touches : EachPass (has_id ids) near
  pub old_goals : BringsGoals k (passes ids n) (first_table p.source) (second_table p.source)
  pub new_goals : BringsGoals k (passes ids n) (first_table (changed_tables p.source near)) (second_table (changed_tables p.source near))
  pub others : SeesNoChange k (passes ids n) (first_table p.source) (second_table p.source) (second_table (changed_tables p.source near))
  pub witness : BringsWitness k (passes ids n) (first_table p.source) (second_table p.source) (first_table p.source) (first_table (changed_tables p.source near))

-- such identifiers are a footprint
abbrev pub ClosedIsDecomposeBackFootprint : Type 0
ClosedIsDecomposeBackFootprint = (first second : List ℕ) (place : ℕ) (near : TableChanges) (p : PairState) (n : ℕ) (ids : List ℕ) → MayChange (flip (decompose_columns first second place)) near p n
    → IsClosedDecomposeBack (column_parts first second place) near p n ids → IsFootprint (flip (decompose_columns first second place)) near p n ids
