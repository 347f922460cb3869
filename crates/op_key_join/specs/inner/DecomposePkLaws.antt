-- The laws of DECOMPOSE ON PK.
use Rattle.std.proofs.Common.{◌≡◌, ℕ, ◌+◌, List, [], ◌∷◌, length, Bool, not, ◌||◌, Some, None, inr, refl, sym, ◌∙◌, ap}
use Rattle.par_base.specs.declared.value.Value.{Value}
use Rattle.op_law.specs.Tables.{Heading}
use Rattle.op_rows.specs.Cells.{Cells, nth_cell, CellWide, AreCellsOf, CellSound}
use Rattle.op_rows.specs.inner.CellLemmas.{nth_sound}
use Rattle.op_rows.specs.RowMeaning.{RowHalf, RowLaws, flip_row}
use Rattle.row_parts.specs.RowCells.{Cell, is_there, kept_if, row_or, by_test}
use Rattle.row_parts.specs.Places.{pick, nulls, ArePartition}
use Rattle.row_parts.specs.inner.PlaceLemmas.{length-names, length-pick, pick_sound, first_join, second_join, join_parts}
use Rattle.op_key_join.specs.Sides.{OneCell, TwoCells, one_cell, two_cells, one_wide, two_wide, both_cells}
use Rattle.op_key_join.specs.Nulls.{is_null, nulls_null, null_nulls}
use Rattle.op_key_join.specs.inner.PartLemmas.{or_nulls_wide, or_nulls_may, both_wide, both_may}
use Rattle.op_key_join.specs.DecomposePk.{DecomposePkFits, shown_part, null_row, row_of_neither, HasParts, joined_parts, shown_parts, decompose_pk}

-- a part that isn't shown is null
shown_row : (width : ℕ) (stands : Bool) (part : List Value) → length part ≡ width → row_or (nulls width) (kept_if (not (is_null part) || stands) (Some part)) ≡ part
shown_row width stands part wide =
    by_test (is_null part)
    (λ null.
    let nothing : nulls width ≡ part = sym (null_nulls part null ∙ ap nulls wide) in
    by_test stands (λ e. rw (null, e) refl) (λ e. rw (null, e) nothing))
    (λ other. rw other refl)

-- the part of a row that was joined is shown where its table had the identifier
shown_is : (width : ℕ) (part : List Value) (x : Cell) → part ≡ row_or (nulls width) x → kept_if (not (is_null part) || is_there (null_row x)) (Some part) ≡ x
shown_is width part None is = let null = ap is_null is ∙ nulls_null width in rw null refl
shown_is width part (Some row) is = by_test (is_null row) (λ null. rw (is, null) refl) (λ other. rw (is, other) refl)

-- what is shown is a part of the source's row
shown_wide : (places : List ℕ) (c : Cell) (stands : Bool) → CellWide (length places) (shown_part places c stands)
shown_wide places None stands = tt
shown_wide places (Some row) stands =
    by_test (not (is_null (pick places row)) || stands) (λ e. rw e (length-pick places row)) (λ e. rw e tt)

shown_may : (n : ℕ) (places : List ℕ) (c : Cell) (stands : Bool) → CellSound n c → CellSound n (shown_part places c stands)
shown_may n places None stands sound = tt
shown_may n places (Some row) stands sound =
    by_test (not (is_null (pick places row)) || stands) (λ e. rw e (pick_sound n places row sound)) (λ e. rw e tt)

-- the row that is in neither target is the source's, or none
pub neither_wide : (width : ℕ) (c x y : Cell) → CellWide width c → CellWide width (row_of_neither c x y)
neither_wide width c None None wide = wide
neither_wide width c (Some x) y wide = tt
neither_wide width c None (Some y) wide = tt

neither_may : (n : ℕ) (c x y : Cell) → CellSound n c → CellSound n (row_of_neither c x y)
neither_may n c None None sound = sound
neither_may n c (Some x) y sound = tt
neither_may n c None (Some y) sound = tt

module _ (first second : List ℕ) where
  abbrev width : ℕ
  width = length first + length second

  -- what either side has
  pub source_of : (hs ht : List Heading) (cs : Cells) → DecomposePkFits first second hs ht → AreCellsOf hs cs → OneCell width cs
  source_of hs ht cs fits of = one_cell width fits.source hs cs fits.source_is fits.source_wide of

  s_long : (hs ht : List Heading) (fits : DecomposePkFits first second hs ht) → length fits.s.columns ≡ length first
  s_long hs ht fits = ap length fits.s_columns ∙ length-names first fits.source.columns

  t_long : (hs ht : List Heading) (fits : DecomposePkFits first second hs ht) → length fits.t.columns ≡ length second
  t_long hs ht fits = ap length fits.t_columns ∙ length-names second fits.source.columns

  pub target_of : (hs ht : List Heading) (cs : Cells) → DecomposePkFits first second hs ht → AreCellsOf ht cs → TwoCells (length first) (length second) cs
  target_of hs ht cs fits of = two_cells (length first) (length second) fits.s fits.t ht cs fits.target_is (s_long hs ht fits) (t_long hs ht fits) of

  -- the sides that the mappings give are as wide as they are to be
  pub parts_wide : (hs ht : List Heading) (c : Cell) (null_first null_second : Bool) → DecomposePkFits first second hs ht → AreCellsOf ht (shown_part first c null_first ∷ shown_part second c null_second ∷ [])
  parts_wide hs ht c null_first null_second fits =
      two_wide (length first) (length second) fits.s fits.t ht _ _ fits.target_is (s_long hs ht fits) (t_long hs ht fits)
      (shown_wide first c null_first) (shown_wide second c null_second)

  joined_long : (x y neither : Cell) → CellWide width neither → CellWide width (joined_parts first second x y neither)
  joined_long None None neither wide = wide
  joined_long (Some x) y neither wide = both_wide first second x (row_or (nulls (length second)) y)
  joined_long None (Some y) neither wide = both_wide first second (nulls (length first)) y

  pub source_wide : (hs ht : List Heading) (x y neither : Cell) → DecomposePkFits first second hs ht → CellWide width neither → AreCellsOf hs (joined_parts first second x y neither ∷ [])
  source_wide hs ht x y neither fits wide =
      one_wide width fits.source hs _ fits.source_is fits.source_wide (joined_long x y neither wide)

  -- the source's row has the parts that are shown
  pub has_shown : (c : Cell) (null_first null_second : Bool) → ArePartition first second → CellWide width c → HasParts first second c (shown_part first c null_first) (shown_part second c null_second)
  has_shown None null_first null_second divided wide = (refl, refl)
  has_shown (Some row) null_first null_second divided wide =
      let x = shown_row (length first) null_first (pick first row) (length-pick first row) in
      let y = shown_row (length second) null_second (pick second row) (length-pick second row) in
      rw (x, y) (sym (join_parts first second divided row wide))

  -- and the parts that it has are shown
  parts_shown : (c x y : Cell) → ArePartition first second → CellWide (length first) x → CellWide (length second) y → HasParts first second c x y
      → (shown_part first c (is_there (null_row x)) ≡ x) × (shown_part second c (is_there (null_row y)) ≡ y)
  parts_shown None x y divided wide other has = (sym has.0, sym has.1)
  parts_shown (Some row) x y divided wide other has =
      let a = row_or (nulls (length first)) x in
      let b = row_or (nulls (length second)) y in
      let long : length a ≡ length first = or_nulls_wide (length first) x wide in
      let more : length b ≡ length second = or_nulls_wide (length second) y other in (
        shown_is (length first) (pick first row) x (ap (pick first) has ∙ first_join first second divided a b long more),
        shown_is (length second) (pick second row) y (ap (pick second) has ∙ second_join first second divided a b long more),
      )

  -- an identifier that is in neither target keeps its null row
  pub has_joined : (x y neither : Cell) → HasParts first second neither None None → HasParts first second (joined_parts first second x y neither) x y
  has_joined None None neither null = null
  has_joined (Some x) y neither null = refl
  has_joined None (Some y) neither null = refl

  pub neither_null : (c x y : Cell) → HasParts first second c x y → HasParts first second (row_of_neither c x y) None None
  neither_null c None None has = has
  neither_null c (Some x) y has = (refl, refl)
  neither_null c None (Some y) has = (refl, refl)

  -- the parts of a row give it back
  joined_still : (c x y : Cell) → HasParts first second c x y → joined_parts first second x y (row_of_neither c x y) ≡ c
  joined_still c None None has = refl
  joined_still (Some row) (Some x) y has = ap (λ (vs : List Value). Some vs) (sym has)
  joined_still (Some row) None (Some y) has = ap (λ (vs : List Value). Some vs) (sym has)
  joined_still None (Some x) y has = let none = has.0 in absurd (cc)
  joined_still None None (Some y) has = let none = has.1 in absurd (cc)

  joined_may : (n : ℕ) (x y neither : Cell) → CellSound n x → CellSound n y → CellSound n neither → CellSound n (joined_parts first second x y neither)
  joined_may n None None neither sound other last = last
  joined_may n (Some x) y neither sound other last = both_may n first second x _ sound (or_nulls_may n (length second) y other)
  joined_may n None (Some y) neither sound other last = both_may n first second _ y (or_nulls_may n (length first) None tt) other

  targets_still : (hs ht : List Heading) (s t : Cells) → DecomposePkFits first second hs ht → AreCellsOf ht t → HasParts first second (nth_cell 0 s) (nth_cell 0 t) (nth_cell 1 t)
      → shown_parts first second (nth_cell 0 s) (null_row (nth_cell 0 t)) (null_row (nth_cell 1 t)) ≡ t
  targets_still hs ht s t fits of has =
      let two = target_of hs ht t fits of in
      let shown = parts_shown (nth_cell 0 s) (nth_cell 0 t) (nth_cell 1 t) fits.divided two.first_wide two.second_wide has in
      both_cells _ _ _ _ shown.0 shown.1 ∙ two.is

  forward_half : RowHalf (decompose_pk first second)
  forward_half = record {
    related = λ hs ht near s t pair near_of. has_shown (nth_cell 0 near) _ _ pair.fits.divided (source_of hs ht near pair.fits near_of).wide;
    wide = λ hs ht near s t pair near_of. parts_wide hs ht (nth_cell 0 near) _ _ pair.fits;
    still = λ hs ht s t pair. targets_still hs ht s t pair.fits pair.target_of pair.related;
    below = λ hs ht near s t n may.
        let sound = nth_sound n 0 near may.near_sound in
        (shown_may n first (nth_cell 0 near) _ sound, (shown_may n second (nth_cell 0 near) _ sound, tt));
    recovered = λ hs ht s t reads pair. targets_still hs ht s t pair.fits pair.target_of pair.related;
    readable = λ hs ht fits. inr refl;
    aux_long = λ hs ht s t pair. refl;
    aux_nothing = refl;
    fits_long = λ hs ht fits. (ap length fits.source_is, ap length fits.target_is);
    closed_more = λ n k more closed. tt;
    empty = (refl, refl);
  }

  backward_half : RowHalf (flip_row (decompose_pk first second))
  backward_half = record {
    related = λ ht hs near t s pair near_of. has_joined (nth_cell 0 near) (nth_cell 1 near) _ (neither_null (nth_cell 0 s) (nth_cell 0 t) (nth_cell 1 t) pair.related);
    wide = λ ht hs near t s pair near_of.
        source_wide hs ht (nth_cell 0 near) (nth_cell 1 near) _ pair.fits
        (neither_wide width (nth_cell 0 s) (nth_cell 0 t) (nth_cell 1 t) (source_of hs ht s pair.fits pair.target_of).wide);
    still = λ ht hs t s pair.
        ap (λ (c : Cell). c ∷ []) (joined_still (nth_cell 0 s) (nth_cell 0 t) (nth_cell 1 t) pair.related) ∙ (source_of hs ht s pair.fits pair.target_of).is;
    below = λ ht hs near t s n may. (
      joined_may n (nth_cell 0 near) (nth_cell 1 near) _ (nth_sound n 0 near may.near_sound) (nth_sound n 1 near may.near_sound)
          (neither_may n (nth_cell 0 s) (nth_cell 0 t) (nth_cell 1 t) (nth_sound n 0 s may.target_sound)),
      tt,
    );
    recovered = λ ht hs t s reads pair.
        ap (λ (c : Cell). c ∷ []) (joined_still (nth_cell 0 s) (nth_cell 0 t) (nth_cell 1 t) pair.related) ∙ (source_of hs ht s pair.fits pair.target_of).is;
    readable = λ ht hs fits. inr refl;
    aux_long = λ ht hs t s pair. refl;
    aux_nothing = refl;
    fits_long = λ ht hs fits. (ap length fits.target_is, ap length fits.source_is);
    closed_more = λ n k more closed. tt;
    empty = (refl, refl);
  }

  pub decompose_pk_laws : RowLaws (decompose_pk first second)
  decompose_pk_laws = (forward_half, backward_half)
