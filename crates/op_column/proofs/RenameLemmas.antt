-- Which rows a rename admits.
use Rattle.std.proofs.Common.{◌≡◌, length, Some, sym, subst}
use Rattle.op_rows.specs.Cells.{Cells, AreCellsOf}
use Rattle.op_rows.specs.declared.near_side.NearSide.{NearSide}
use Rattle.op_rows.specs.declared.near_side.NearSide.TheVariants.{Source, Target}
use Rattle.op_rows.specs.NearSides.{seen_from}
use Rattle.op_rows.specs.RowMeaning.{flip_row}
use Rattle.op_rows.specs.RowCalls.{AdmitsRows}
use Rattle.op_column.specs.Rename.{rename, same_wide}
use Rattle.op_column.proofs.OneTableLemmas.{no_cells}

admits : (near far aux : Cells) → far ≡ near → length aux ≡ 0 → AdmitsRows rename near aux (Some far)
admits near far aux same none = (
  same,
  λ hs ht fits near_of. record {
    pair = record { fits = fits; related = sym same; source_of = near_of; target_of = subst (λ (cs : Cells). AreCellsOf ht cs) (sym same) (same_wide hs ht near fits.2 near_of) };
    aux_is = no_cells aux none;
  },
)

admits_back : (near far aux : Cells) → far ≡ near → length aux ≡ 0 → AdmitsRows (flip_row rename) near aux (Some far)
admits_back near far aux same none = (
  same,
  λ hs ht fits near_of. record {
    pair = record { fits = fits; related = same; source_of = near_of; target_of = subst (λ (cs : Cells). AreCellsOf ht cs) (sym same) (same_wide hs ht near (sym fits.2) near_of) };
    aux_is = no_cells aux none;
  },
)

-- whichever side is near
pub admits_either : (side : NearSide) (near far aux : Cells) → far ≡ near → length aux ≡ 0 → AdmitsRows (seen_from side rename) near aux (Some far)
admits_either Source = admits
admits_either Target = admits_back
