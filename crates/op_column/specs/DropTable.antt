-- DROP TABLE: the source table is unrestricted, and the target is empty of tables.
use Rattle.std.specs.Prelude.{◌≡◌, ℕ, [], ◌∷◌, length, true, refl}
use Rattle.std.proofs.Common.{inr, sym, ap}
use Rattle.op_law.specs.Tables.{widths}
use Rattle.op_rows.specs.RowMeaning.{RowMeaning, RowHalf, RowLaws, flip_row}
use Rattle.op_column.specs.OneTable.{one_cell, one_long, no_cell, no_cell_wide}

-- the source has so many columns; where the target is stored, all its rows are kept beside
abbrev pub drop_table : ℕ → RowMeaning
drop_table width = record {
  sources = 1;
  targets = 0;
  source_aux = 0;
  target_aux = 1;
  Fits = λ hs ht. (widths hs ≡ width ∷ []) × (ht ≡ []);
  Closed = λ n. Unit {0};
  Related = λ s t. t ≡ [];
  forward = λ near s t. [];
  backward = λ near s t. s;
  aux_at_source = λ s t. [];
  aux_at_target = λ s t. s;
  read_target = λ s aux. [];
  read_source = λ t aux. aux;
  reads_target = true;
  reads_source = true;
}

-- the laws
module _ (width : ℕ) where
  forward_half : RowHalf (drop_table width)
  forward_half = record {
    related = λ hs ht near s t pair near_of. refl;
    wide = λ hs ht near s t pair near_of. no_cell_wide ht pair.fits.1;
    still = λ hs ht s t pair. sym pair.related;
    below = λ hs ht near s t n may. tt;
    recovered = λ hs ht s t reads pair. sym pair.related;
    readable = λ hs ht fits. inr refl;
    aux_long = λ hs ht s t pair. refl;
    aux_nothing = refl;
    fits_long = λ hs ht fits. (one_long width hs fits.0, ap length fits.1);
    closed_more = λ n k more closed. tt;
    empty = refl;
  }

  backward_half : RowHalf (flip_row (drop_table width))
  backward_half = record {
    related = λ hs ht near s t pair near_of. no_cell hs near pair.fits.1 near_of;
    wide = λ hs ht near s t pair near_of. pair.target_of;
    still = λ hs ht s t pair. refl;
    below = λ hs ht near s t n may. may.target_sound;
    recovered = λ hs ht s t reads pair. refl;
    readable = λ hs ht fits. inr refl;
    aux_long = λ hs ht s t pair. ap length (sym (one_cell width ht t pair.fits.0 pair.target_of).is);
    aux_nothing = refl;
    fits_long = λ hs ht fits. (ap length fits.1, one_long width ht fits.0);
    closed_more = λ n k more closed. tt;
    empty = refl;
  }

pub drop_table_laws : (width : ℕ) → RowLaws (drop_table width)
drop_table_laws width = (forward_half width, backward_half width)
