-- What the calls of an operator at one identifier suppose and answer.
use Rattle.std.specs.Prelude.{◌≡◌, List, Option, Some, None}
use Rattle.op_law.specs.Tables.{Heading}
use Rattle.op_rows.specs.Cells.{Cells, AreCellsOf}
use Rattle.op_rows.specs.RowMeaning.{RowMeaning, RowPair}

-- related rows, for some headings
pub record SomeRows (r : RowMeaning) (s t : Cells) : Type 0 where
  pub hs : List Heading
  pub ht : List Heading
  pub pair : RowPair r hs ht s t

-- related old rows and a new source, for some headings
pub record MayRows (r : RowMeaning) (near s t : Cells) : Type 0 where
  pub hs : List Heading
  pub ht : List Heading
  pub pair : RowPair r hs ht s t
  pub near_of : AreCellsOf hs near

-- the auxiliary rows are those of related rows
pub record RowBelongs (r : RowMeaning) (hs ht : List Heading) (aux s t : Cells) : Type 0 where
  pub pair : RowPair r hs ht s t
  pub aux_is : aux ≡ r.aux_at_source s t

-- a source and auxiliary rows of related rows, for some headings
pub record StoredRows (r : RowMeaning) (near aux : Cells) : Type 0 where
  pub hs : List Heading
  pub ht : List Heading
  pub far : Cells
  pub belongs : RowBelongs r hs ht aux near far

-- rows for which the operator is built as sources
pub record NearRows (r : RowMeaning) (near : Cells) : Type 0 where
  pub hs : List Heading
  pub ht : List Heading
  pub fits : r.Fits hs ht
  pub near_of : AreCellsOf hs near

-- the target that is read back, where the source and the auxiliary rows belong to it, or none exactly where they belong to no related rows
abbrev pub AdmitsRows : RowMeaning → Cells → Cells → Option Cells → Type 0
AdmitsRows r near aux (Some far) = (far ≡ r.read_target near aux) × ((hs ht : List Heading) → r.Fits hs ht → AreCellsOf hs near → RowBelongs r hs ht aux near far)
AdmitsRows r near aux None = (hs ht : List Heading) (far : Cells) → RowBelongs r hs ht aux near far → ⊥
