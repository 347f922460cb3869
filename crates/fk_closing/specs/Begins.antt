-- With which identifiers a footprint begins.
use Rattle.std.specs.Prelude.{ℕ, List}
use Rattle.par_base.specs.declared.value.Value.{Value}
use Rattle.row_store.specs.Rows.{Rows}
use Rattle.row_changes.specs.Changed.{TableChanges}
use Rattle.row_changes.specs.Touched.{touched}
use Rattle.id_closing.specs.Found.{AreAmong}
use Rattle.id_closing.specs.Told.{AllOf, OfNew, changes_at}
use Rattle.fk_closing.specs.Looking.{HasGoal, HasLeast, HasRefs}

-- where S and T change: all that changes, to what new rows of S refer, and, by the foreign keys of S, the rows that refer to a changed row of T
pub record BeginsAtTables (place : ℕ) (keys : Rows) (near : TableChanges) (begin : List ℕ) : Type 0 where
  pub touched : AreAmong (touched near) begin
  pub goals : AllOf (OfNew (HasGoal place begin)) (changes_at near 0)
  pub refs : AllOf (λ c. HasRefs 0 keys begin c.id) (changes_at near 1)

-- where R changes: all that changes, and the least row of T with the T part of each new row
pub record BeginsAtRows (second : List Value → List Value) (keys : Rows) (near : TableChanges) (begin : List ℕ) : Type 0 where
  pub touched : AreAmong (touched near) begin
  pub least : AllOf (OfNew (HasLeast second keys begin)) (changes_at near 0)
