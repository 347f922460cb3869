-- Another name for a table or a column: both sides have the same rows.
use Rattle.std.specs.Prelude.{◌≡◌, ℕ, List, [], ◌∷◌, length, true, refl}
use Rattle.std.proofs.Common.{inr, sym, subst}
use Rattle.op_law.specs.Tables.{Heading, widths}
use Rattle.op_rows.specs.Cells.{Cells, CellWide, AreCellsOf}
use Rattle.op_rows.specs.RowMeaning.{RowMeaning, RowHalf, RowLaws, flip_row}

abbrev pub rename : RowMeaning
rename = record {
  sources = 1;
  targets = 1;
  source_aux = 0;
  target_aux = 0;
  Fits = λ hs ht. (length hs ≡ 1) × (length ht ≡ 1) × (widths hs ≡ widths ht);
  Closed = λ n. Unit {0};
  Related = λ s t. s ≡ t;
  forward = λ near s t. near;
  backward = λ near s t. near;
  aux_at_source = λ s t. [];
  aux_at_target = λ s t. [];
  read_target = λ s aux. s;
  read_source = λ t aux. t;
  reads_target = true;
  reads_source = true;
}

-- cells of tables with so many columns are cells of others with as many
pub same_wide : (hs ht : List Heading) (cs : Cells) → widths hs ≡ widths ht → AreCellsOf hs cs → AreCellsOf ht cs
same_wide [] [] cs e h = h
same_wide [] (k ∷ ks) cs e h = absurd (cc)
same_wide (h ∷ hs) [] cs e is = absurd (cc)
same_wide (h ∷ hs) (k ∷ ks) [] e is = absurd is
same_wide (h ∷ hs) (k ∷ ks) (c ∷ cs) e is =
    let one : length h.columns ≡ length k.columns = cc in
    let rest : widths hs ≡ widths ks = cc in
    (subst (λ (width : ℕ). CellWide width c) one is.0, same_wide hs ks cs rest is.1)

forward_half : RowHalf rename
forward_half = record {
  related = λ hs ht near s t pair near_of. refl;
  wide = λ hs ht near s t pair near_of. same_wide hs ht near pair.fits.2 near_of;
  still = λ hs ht s t pair. pair.related;
  below = λ hs ht near s t n may. may.near_sound;
  recovered = λ hs ht s t reads pair. pair.related;
  readable = λ hs ht fits. inr refl;
  aux_long = λ hs ht s t pair. refl;
  aux_nothing = refl;
  fits_long = λ hs ht fits. (fits.0, fits.1);
  closed_more = λ n k more closed. tt;
  empty = refl;
}

backward_half : RowHalf (flip_row rename)
backward_half = record {
  related = λ hs ht near s t pair near_of. refl;
  wide = λ hs ht near s t pair near_of. same_wide hs ht near (sym pair.fits.2) near_of;
  still = λ hs ht s t pair. sym pair.related;
  below = λ hs ht near s t n may. may.near_sound;
  recovered = λ hs ht s t reads pair. sym pair.related;
  readable = λ hs ht fits. inr refl;
  aux_long = λ hs ht s t pair. refl;
  aux_nothing = refl;
  fits_long = λ hs ht fits. (fits.1, fits.0);
  closed_more = λ n k more closed. tt;
  empty = refl;
}

pub rename_laws : RowLaws rename
rename_laws = (forward_half, backward_half)
