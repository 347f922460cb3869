-- What inner calls suppose and answer.
use Rattle.std.specs.Prelude.{◌≡◌, ℕ, length, true, Option, Some, None}
use Rattle.expr_lang.specs.Terms.{Term}
use Rattle.expr_lang.specs.Val.{fits_row}
use Rattle.op_rows.specs.Cells.{Cells, nth_cell, CellWide}
use Rattle.row_parts.specs.RowCells.{Cell}
use Rattle.op_split_merge.specs.Split.{reads_within, SplitRelated, split_aux_at_source, split_aux_at_target}

-- the condition can be tested at the row, where there is one
abbrev pub CanTest : Option (Term ℕ) → Cell → Type 0
CanTest condition None = Unit {0}
CanTest condition (Some row) = reads_within condition (length row) ≡ true

-- both conditions can be
abbrev pub CanTestBoth : Term ℕ → Option (Term ℕ) → Cell → Type 0
CanTestBoth first second cell = CanTest (Some first) cell × CanTest second cell

-- both conditions can be tested at rows of so many values
pub record TestsWithin (width : ℕ) (first : Term ℕ) (second : Option (Term ℕ)) : Type 0 where
  pub first_reads : fits_row first width ≡ true
  pub second_reads : reads_within second width ≡ true

-- the targets are as wide as the source and related to it, and these are their auxiliary rows
pub record TargetBelongs (width : ℕ) (first : Term ℕ) (second : Option (Term ℕ)) (source aux far : Cells) : Type 0 where
  pub first_wide : CellWide width (nth_cell 0 far)
  pub second_wide : CellWide width (nth_cell 1 far)
  pub related : SplitRelated first second source far
  pub aux_is : aux ≡ split_aux_at_source first second source far

-- the source is as wide as the targets and related to them, and this is its auxiliary row
pub record SourceBelongs (width : ℕ) (first : Term ℕ) (second : Option (Term ℕ)) (target aux far : Cells) : Type 0 where
  pub wide : CellWide width (nth_cell 0 far)
  pub related : SplitRelated first second far target
  pub aux_is : aux ≡ split_aux_at_target far target
