-- Which rows CREATE TABLE and DROP TABLE admit.
use Rattle.std.proofs.Common.{◌≡◌, ℕ, [], ◌∷◌, length, true, false, Some, None, sym, ◌∙◌, ap, subst}
use Rattle.std.proofs.lemmas.Bool.{false≢true}
use Rattle.op_rows.specs.Cells.{Cells, AreCellsOf}
use Rattle.op_rows.specs.RowMeaning.{flip_row}
use Rattle.op_rows.specs.RowCalls.{AdmitsRows}
use Rattle.op_rows.specs.inner.Tabulated.{nones_well}
use Rattle.op_column.specs.OneTable.{one_cell, one_wide, no_cell}
use Rattle.op_column.specs.inner.Calls.{is_one_cell}
use Rattle.op_column.specs.CreateTable.{create_table}
use Rattle.op_column.specs.DropTable.{drop_table}
use Rattle.op_column.proofs.OneTableLemmas.{no_cells, one_passes, passes_one}

-- CREATE TABLE reads no row where nothing is kept beside
pub admits_none : (near far aux : Cells) → far ≡ None ∷ [] → length aux ≡ 0 → AdmitsRows create_table near aux (Some far)
admits_none near far aux made none = (
  made,
  λ hs ht fits near_of. record {
    pair = record { fits = fits; related = no_cell hs near fits.0 near_of; source_of = near_of; target_of = subst (λ (cs : Cells). AreCellsOf ht cs) (sym made) (nones_well ht 1 fits.1) };
    aux_is = no_cells aux none;
  },
)

-- DROP TABLE reads the rows that are kept beside, where they are as wide as its source
pub admits_kept : (width : ℕ) (near far aux : Cells) → far ≡ aux → is_one_cell width aux ≡ true → AdmitsRows (flip_row (drop_table width)) near aux (Some far)
admits_kept width near far aux same passes = (
  same,
  λ hs ht fits near_of. record {
    pair = record { fits = fits; related = no_cell hs near fits.1 near_of; source_of = near_of; target_of = one_wide width ht far fits.0 (passes_one width far (ap (is_one_cell width) same ∙ passes)) };
    aux_is = sym same;
  },
)

-- and no others belong to it
pub admits_other : (width : ℕ) (near aux : Cells) → is_one_cell width aux ≡ false → AdmitsRows (flip_row (drop_table width)) near aux None
admits_other width near aux fails hs ht far belongs =
    let one = one_cell width ht far belongs.pair.fits.0 belongs.pair.target_of in
    false≢true (sym fails ∙ ap (is_one_cell width) belongs.aux_is ∙ one_passes width far one)
