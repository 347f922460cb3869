-- CREATE TABLE: there is no source table, and the target table is unrestricted.
use Rattle.std.specs.Prelude.{◌≡◌, [], ◌∷◌, length, None, true, false, refl}
use Rattle.std.proofs.Common.{inl, inr, sym, ap}
use Rattle.std.proofs.lemmas.Bool.{false≢true}
use Rattle.op_rows.specs.RowMeaning.{RowMeaning, RowHalf, RowLaws, flip_row}
use Rattle.op_column.specs.OneTable.{no_cell, no_cell_wide}

-- the one operator whose target isn't read back from its source: there it reads no row
abbrev pub create_table : RowMeaning
create_table = record {
  sources = 0;
  targets = 1;
  source_aux = 0;
  target_aux = 0;
  Fits = λ hs ht. (hs ≡ []) × (length ht ≡ 1);
  Closed = λ n. Unit {0};
  Related = λ s t. s ≡ [];
  forward = λ near s t. t;
  backward = λ near s t. [];
  aux_at_source = λ s t. [];
  aux_at_target = λ s t. [];
  read_target = λ s aux. None ∷ [];
  read_source = λ t aux. [];
  reads_target = false;
  reads_source = true;
}

-- the laws
forward_half : RowHalf create_table
forward_half = record {
  related = λ hs ht near s t pair near_of. no_cell hs near pair.fits.0 near_of;
  wide = λ hs ht near s t pair near_of. pair.target_of;
  still = λ hs ht s t pair. refl;
  below = λ hs ht near s t n may. may.target_sound;
  recovered = λ hs ht s t reads pair. absurd (false≢true reads);
  readable = λ hs ht fits. inl fits.0;
  aux_long = λ hs ht s t pair. refl;
  aux_nothing = refl;
  fits_long = λ hs ht fits. (ap length fits.0, fits.1);
  closed_more = λ n k more closed. tt;
  empty = refl;
}

backward_half : RowHalf (flip_row create_table)
backward_half = record {
  related = λ hs ht near s t pair near_of. refl;
  wide = λ hs ht near s t pair near_of. no_cell_wide ht pair.fits.0;
  still = λ hs ht s t pair. sym pair.related;
  below = λ hs ht near s t n may. tt;
  recovered = λ hs ht s t reads pair. sym pair.related;
  readable = λ hs ht fits. inr refl;
  aux_long = λ hs ht s t pair. refl;
  aux_nothing = refl;
  fits_long = λ hs ht fits. (fits.1, ap length fits.0);
  closed_more = λ n k more closed. tt;
  empty = refl;
}

pub create_table_laws : RowLaws create_table
create_table_laws = (forward_half, backward_half)
