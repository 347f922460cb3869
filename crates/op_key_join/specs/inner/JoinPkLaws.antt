-- The laws of JOIN ON PK.
use Rattle.std.proofs.Common.{◌≡◌, ℕ, zero, suc, ◌+◌, List, [], ◌∷◌, ◌++◌, length, take, drop, Some, None, inr, refl, sym, ◌∙◌, ap, subst, arith}
use Rattle.std.proofs.lemmas.List.{length-append, length-take-le, length-drop, take-append-drop}
use Rattle.std.proofs.Math.Seq.{take-append_seam, drop-append_seam}
use Rattle.par_base.specs.declared.value.Value.{Value}
use Rattle.op_law.specs.Tables.{Heading}
use Rattle.op_law.specs.Sound.{ValuesSound}
use Rattle.op_rows.specs.Cells.{Cells, nth_cell, CellWide, AreCellsOf, CellSound}
use Rattle.op_rows.specs.inner.CellLemmas.{nth_sound}
use Rattle.op_rows.specs.RowMeaning.{RowHalf, RowLaws, flip_row}
use Rattle.row_parts.specs.RowCells.{Cell, or_else, map_cell}
use Rattle.op_key_join.specs.Sides.{OneCell, TwoCells, one_cell, two_cells, one_wide, two_wide, both_cells}
use Rattle.op_key_join.specs.JoinPk.{JoinPkFits, joined, row_alone, sources_of, join_pk}

-- what may stand gives what may stand
append_may : (n : ℕ) (x y : List Value) → ValuesSound n x → ValuesSound n y → ValuesSound n (x ++ y)
append_may n [] y sound other = other
append_may n (v ∷ vs) y sound other = (sound.0, append_may n vs y sound.1 other)

take_may : (n count : ℕ) (x : List Value) → ValuesSound n x → ValuesSound n (take count x)
take_may n zero x sound = tt
take_may n (suc count) [] sound = tt
take_may n (suc count) (v ∷ vs) sound = (sound.0, take_may n count vs sound.1)

drop_may : (n count : ℕ) (x : List Value) → ValuesSound n x → ValuesSound n (drop count x)
drop_may n zero x sound = sound
drop_may n (suc count) [] sound = tt
drop_may n (suc count) (v ∷ vs) sound = drop_may n count vs sound.1

joined_may : (n : ℕ) (x y : Cell) → CellSound n x → CellSound n y → CellSound n (joined x y)
joined_may n (Some x) (Some y) sound other = append_may n x y sound other
joined_may n (Some x) None sound other = tt
joined_may n None y sound other = tt

joined_long : (first second : ℕ) (x y : Cell) → CellWide first x → CellWide second y → CellWide (first + second) (joined x y)
joined_long first second (Some x) (Some y) wide other = let long = length-append x y in omega (arith, long, wide, other)
joined_long first second (Some x) None wide other = tt
joined_long first second None y wide other = tt

-- a row that goes to a source is a part of the target's, or the source's own
goes_wide : (width : ℕ) (part : List Value → List Value) (r c x : Cell) → CellWide width (map_cell part r) → CellWide width x → CellWide width (or_else (map_cell part r) (row_alone c x))
goes_wide width part (Some row) c x wide own = wide
goes_wide width part None None x wide own = own
goes_wide width part None (Some row) x wide own = tt

goes_may : (n : ℕ) (part : List Value → List Value) (r c x : Cell) → CellSound n (map_cell part r) → CellSound n x → CellSound n (or_else (map_cell part r) (row_alone c x))
goes_may n part (Some row) c x sound own = sound
goes_may n part None None x sound own = own
goes_may n part None (Some row) x sound own = tt

part_may : (n : ℕ) (part : List Value → List Value) → ((row : List Value) → ValuesSound n row → ValuesSound n (part row)) → (r : Cell) → CellSound n r → CellSound n (map_cell part r)
part_may n part may None sound = tt
part_may n part may (Some row) sound = may row sound

module _ (first second : ℕ) where
  -- what either side has
  pub source_of : (hs ht : List Heading) (cs : Cells) → JoinPkFits first second hs ht → AreCellsOf hs cs → TwoCells first second cs
  source_of hs ht cs fits of = two_cells first second fits.s fits.t hs cs fits.source_is fits.s_wide fits.t_wide of

  target_long : (hs ht : List Heading) (fits : JoinPkFits first second hs ht) → length fits.target.columns ≡ first + second
  target_long hs ht fits =
      let both = ap length fits.columns ∙ length-append fits.s.columns fits.t.columns in
      let wide = fits.s_wide in
      let other = fits.t_wide in
      omega (arith, both, wide, other)

  pub target_of : (hs ht : List Heading) (cs : Cells) → JoinPkFits first second hs ht → AreCellsOf ht cs → OneCell (first + second) cs
  target_of hs ht cs fits of = one_cell (first + second) fits.target ht cs fits.target_is (target_long hs ht fits) of

  -- the sides that the mappings give are as wide as they are to be
  pub joined_wide : (hs ht : List Heading) (x y : Cell) → JoinPkFits first second hs ht → CellWide first x → CellWide second y → AreCellsOf ht (joined x y ∷ [])
  joined_wide hs ht x y fits wide other =
      one_wide (first + second) fits.target ht (joined x y) fits.target_is (target_long hs ht fits) (joined_long first second x y wide other)

  pub sources_wide : (hs ht : List Heading) (x y : Cell) → JoinPkFits first second hs ht → CellWide first x → CellWide second y → AreCellsOf hs (x ∷ y ∷ [])
  sources_wide hs ht x y fits wide other = two_wide first second fits.s fits.t hs x y fits.source_is fits.s_wide fits.t_wide wide other

  pub part_long : (c : Cell) → CellWide (first + second) c → CellWide first (map_cell (take first) c)
  part_long None wide = tt
  part_long (Some row) wide = length-take-le first row (omega (arith, wide))

  pub rest_long : (c : Cell) → CellWide (first + second) c → CellWide second (map_cell (drop first) c)
  rest_long None wide = tt
  rest_long (Some row) wide = let long = length-drop first row in omega (arith, wide, long)

  -- a row of the target gives back the sources' rows
  first_still : (c x y : Cell) → CellWide first x → c ≡ joined x y → or_else (map_cell (take first) c) (row_alone c x) ≡ x
  first_still c (Some x) (Some y) wide is =
      let part : take first (x ++ y) ≡ x = subst (λ (w : ℕ). take w (x ++ y) ≡ x) wide (take-append_seam x y) in
      rw (is, part) refl
  first_still c (Some x) None wide is = rw is refl
  first_still c None y wide is = rw is refl

  second_still : (c x y : Cell) → CellWide first x → c ≡ joined x y → or_else (map_cell (drop first) c) (row_alone c y) ≡ y
  second_still c (Some x) (Some y) wide is =
      let part : drop first (x ++ y) ≡ y = subst (λ (w : ℕ). drop w (x ++ y) ≡ y) wide (drop-append_seam x y) in
      rw (is, part) refl
  second_still c (Some x) None wide is = rw is refl
  second_still c None (Some y) wide is = rw is refl
  second_still c None None wide is = rw is refl

  -- rows that aren't in the target don't join
  pub alone_apart : (c x y : Cell) → c ≡ joined x y → joined (row_alone c x) (row_alone c y) ≡ None
  alone_apart c (Some x) (Some y) is = rw is refl
  alone_apart c (Some x) None is = rw is refl
  alone_apart c None (Some y) is = rw is refl
  alone_apart c None None is = rw is refl

  pub parts_join : (r a b : Cell) → (r ≡ None → joined a b ≡ None) → r ≡ joined (or_else (map_cell (take first) r) a) (or_else (map_cell (drop first) r) b)
  parts_join (Some row) a b apart = ap (λ (vs : List Value). Some vs) (sym (take-append-drop first row))
  parts_join None a b apart = sym (apart refl)

  sources_still : (hs ht : List Heading) (s t : Cells) → JoinPkFits first second hs ht → AreCellsOf hs s → nth_cell 0 t ≡ joined (nth_cell 0 s) (nth_cell 1 s)
      → sources_of first (nth_cell 0 t) (row_alone (nth_cell 0 t) (nth_cell 0 s)) (row_alone (nth_cell 0 t) (nth_cell 1 s)) ≡ s
  sources_still hs ht s t fits of is =
      let two = source_of hs ht s fits of in
      both_cells _ _ _ _ (first_still _ _ _ two.first_wide is) (second_still _ _ _ two.first_wide is) ∙ two.is

  forward_half : RowHalf (join_pk first second)
  forward_half = record {
    related = λ hs ht near s t pair near_of. refl;
    wide = λ hs ht near s t pair near_of.
        let two = source_of hs ht near pair.fits near_of in
        joined_wide hs ht _ _ pair.fits two.first_wide two.second_wide;
    still = λ hs ht s t pair. ap (λ (c : Cell). c ∷ []) (sym pair.related) ∙ (target_of hs ht t pair.fits pair.target_of).is;
    below = λ hs ht near s t n may. (joined_may n _ _ (nth_sound n 0 near may.near_sound) (nth_sound n 1 near may.near_sound), tt);
    recovered = λ hs ht s t reads pair. ap (λ (c : Cell). c ∷ []) (sym pair.related) ∙ (target_of hs ht t pair.fits pair.target_of).is;
    readable = λ hs ht fits. inr refl;
    aux_long = λ hs ht s t pair. refl;
    aux_nothing = refl;
    fits_long = λ hs ht fits. (ap length fits.source_is, ap length fits.target_is);
    closed_more = λ n k more closed. tt;
    empty = refl;
  }

  backward_half : RowHalf (flip_row (join_pk first second))
  backward_half = record {
    related = λ ht hs near t s pair near_of. parts_join (nth_cell 0 near) _ _ (λ none. alone_apart _ _ _ pair.related);
    wide = λ ht hs near t s pair near_of.
        let one = target_of hs ht near pair.fits near_of in
        let two = source_of hs ht s pair.fits pair.target_of in
        sources_wide hs ht _ _ pair.fits
        (goes_wide first (take first) (nth_cell 0 near) (nth_cell 0 t) (nth_cell 0 s) (part_long (nth_cell 0 near) one.wide) two.first_wide)
        (goes_wide second (drop first) (nth_cell 0 near) (nth_cell 0 t) (nth_cell 1 s) (rest_long (nth_cell 0 near) one.wide) two.second_wide);
    still = λ ht hs t s pair. sources_still hs ht s t pair.fits pair.target_of pair.related;
    below = λ ht hs near t s n may.
        let sound = nth_sound n 0 near may.near_sound in (
          goes_may n (take first) (nth_cell 0 near) (nth_cell 0 t) (nth_cell 0 s) (part_may n (take first) (take_may n first) (nth_cell 0 near) sound) (nth_sound n 0 s may.target_sound),
          (goes_may n (drop first) (nth_cell 0 near) (nth_cell 0 t) (nth_cell 1 s) (part_may n (drop first) (drop_may n first) (nth_cell 0 near) sound) (nth_sound n 1 s may.target_sound), tt),
        );
    recovered = λ ht hs t s reads pair. sources_still hs ht s t pair.fits pair.target_of pair.related;
    readable = λ ht hs fits. inr refl;
    aux_long = λ ht hs t s pair. refl;
    aux_nothing = refl;
    fits_long = λ ht hs fits. (ap length fits.target_is, ap length fits.source_is);
    closed_more = λ n k more closed. tt;
    empty = refl;
  }

  pub join_pk_laws : RowLaws (join_pk first second)
  join_pk_laws = (forward_half, backward_half)
