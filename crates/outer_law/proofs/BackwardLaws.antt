-- The laws of mapping from a new target.
use Rattle.std.proofs.Common.{◌≡◌, ℕ, ◌+◌, ◌<◌, ◌≤◌, ◌==◌, ◌⊎◌, List, [], ◌∷◌, length, count_by, Bool, true, false, not, ◌&&◌, Option, Some, None, IsSome, refl, ap, sym, ◌∙◌, subst, arith}
use Rattle.std.proofs.lemmas.Bool.{false≢true, eqb-true}
use mathlib.Core.Logic.{inl, inr}
use Rattle.par_base.specs.declared.value.Value.{Value}
use Rattle.par_base.specs.inner.SameLaws.{row_same}
use Rattle.row_store.specs.Rows.{Rows, RiseFrom, AreBelow, row_of}
use Rattle.row_store.proofs.UndoLaws.{ext}
use Rattle.row_store.specs.inner.FoundRows.{rise_more}
use Rattle.id_memory.specs.Pairs.{Pairs, pair_of, has_pair}
use Rattle.op_law.specs.Tables.{Tables, Heading, RowsWide}
use Rattle.op_law.specs.Sound.{RowsSound, PairsSound, HasRow}
use Rattle.op_law.proofs.SoundTermLaws.{term_more}
use Rattle.op_law.specs.Meaning.{PairState, flip, exchanged}
use Rattle.op_law.specs.Premises.{IsPair, MayMap}
use Rattle.op_law.specs.Laws.{HalfLaws, Laws, InPair}
use Rattle.op_law.proofs.SoundLaws.{below_sound}
use Rattle.op_rows.specs.Cells.{with_row}
use Rattle.row_parts.specs.Places.{pick as part, ArePartition}
use Rattle.row_parts.specs.RowCells.{Cell, by_test, by_option}
use Rattle.pair_rows.specs.Halves.{first_of, second_of}
use Rattle.pair_rows.specs.Stays.{stands}
use Rattle.pair_rows.specs.Kept.{alone, side_read}
use Rattle.pair_rows.specs.Sides.{table_at, JoinFits}
use Rattle.pair_rows.specs.Shown.{Joining, AreThere, row_at}
use Rattle.pair_rows.specs.Given.{unchanged, kept_in}
use Rattle.pair_rows.specs.Getting.{under}
use Rattle.pair_rows.specs.inner.Lookups.{filter_found, filter_lost, filter_has, filter_rise, filter_wide, filter_sound}
use Rattle.pair_rows.specs.inner.KeptLaws.{ArePaired, side_is_read}
use Rattle.pair_rows.specs.inner.ShownLaws.{row_for, joined_found, there_cells}
use Rattle.pair_rows.specs.inner.FoundPairs.{AreFound, found_there, found_joined, found_rises, AllStand, all_stand, AllPaired, all_paired, PartsFound, parts_found}
use Rattle.pair_rows.specs.inner.TwoSides.{TwoTables, OneTable, two_tables, one_table, two_of, table_sound, row_in}
use Rattle.outer_law.specs.Entries.{with_absent, with_half, with_half_alone, AreHalves, IsOuter}
use Rattle.outer_law.specs.Placed.{Placing, Placed, place_by, place_row, placed, ending, beginning, standing}
use Rattle.outer_law.specs.OuterOn.{shown, with_it, outer_backward, outer_on}
use Rattle.outer_law.proofs.AbsentLaws.{row_from, absent_other, absent_wide}
use Rattle.outer_law.proofs.StillLaws.{above_zero}
use Rattle.outer_law.proofs.ForwardLaws.{empty_outer, forward_half}
use Rattle.outer_law.proofs.SubsetLaws.{sub_count, kept_rise, kept_paired, are_kept}
use Rattle.outer_law.proofs.PlacedLaws.{Ready}
use Rattle.outer_law.proofs.StartLaws.{first_picks, second_picks, ArePicks, start_half, stands_counted, counted_with, standing_all}
use Rattle.outer_law.proofs.EndedLaws.{AllCome, Ended, ended, ended_found, count_placed}

-- a row that stands in an entry stays, and so does the absent one
stays_found : (places : List ℕ) (pick : ℕ × ℕ × ℕ → ℕ) (es : Pairs) (rows : Rows) (id : ℕ) → stands pick es id ≡ true → row_of (with_absent places (standing pick es rows)) id ≡ row_of (with_absent places rows) id
stays_found places pick es rows id h = by_test (0 == id) (λ q. rw q refl) (λ q. rw q (filter_found (λ i. stands pick es i) rows id h))

-- so what was found stays
found_stands : (j : Joining) (all : Pairs) (a b : Rows) (es : Pairs) (xs : Rows) → AllStand first_of all es → AllStand second_of all es → AreFound j (with_absent j.first a) (with_absent j.second b) es xs
    → AreFound j (with_absent j.first (standing first_of all a)) (with_absent j.second (standing second_of all b)) es xs
found_stands j all a b [] [] one other found = tt
found_stands j all a b [] (x ∷ xs) one other found = absurd found
found_stands j all a b (e ∷ es) [] one other found = absurd found
found_stands j all a b (e ∷ es) (x ∷ xs) one other found = (
  (
    found.0.0,
    stays_found j.first first_of all a e.1 one.0 ∙ found.0.1,
    stays_found j.second second_of all b e.2 other.0 ∙ found.0.2,
  ),
  found_stands j all a b es xs one.1 other.1 found.1,
)

-- a half that is found is below
half_below : (places : List ℕ) (rows : Rows) (next id : ℕ) (row : List Value) → 1 ≤ next → AreBelow rows next → row_of (with_absent places rows) id ≡ Some row → id < next
half_below places rows next id row low below at =
    by_test (0 == id)
    (λ q. let same = eqb-true 0 id q in omega (arith, same, low))
    (λ q. let later : row_of rows id ≡ Some row = rw q at at in under rows next id row below later)

-- so the entries are sound
found_below : (j : Joining) (a b : Rows) (n next : ℕ) (es : Pairs) (xs : Rows) → n ≤ next → AreBelow a next → AreBelow b next → RowsSound n xs → AreFound j (with_absent j.first a) (with_absent j.second b) es xs → PairsSound next es
found_below j a b n next [] xs h one other sound found = tt
found_below j a b n next (e ∷ es) [] h one other sound found = absurd found
found_below j a b n next (e ∷ es) (x ∷ xs) h one other sound found =
    let low = sound.0.0.0 in
    let high = sound.0.0.1 in
    let same = found.0.0 in (
      (
        (omega (arith, low, same), omega (arith, high, same, h)),
        half_below j.first a next e.1 (part j.first x.1) (omega (arith, low, high, h)) one found.0.1,
        half_below j.second b next e.2 (part j.second x.1) (omega (arith, low, high, h)) other found.0.2,
      ),
      found_below j a b n next es xs h one other sound.1 found.1,
    )

-- the halves of entries, counted as at the end
halves_of : (pick other : ℕ × ℕ × ℕ → ℕ) → ArePicks pick other → (rows : Rows) (es taken : Pairs) → ((f : ℕ × ℕ × ℕ → Bool) → count_by f es ≡ count_by f taken) → RiseFrom 1 rows
    → ((id : ℕ) → 1 ≤ with_half_alone pick other id taken → with_half pick id taken ≤ 1) → AreHalves pick other (standing pick es rows) es
halves_of pick other picks rows es taken same rise alone = record {
  rise = filter_rise (λ i. stands pick es i) 1 rows rise;
  each = λ id some.
      by_test (stands pick es id)
      (λ q. stands_counted pick other picks es id q)
      (λ q.
      let gone = filter_lost (λ i. stands pick es i) rows id q in
      let none : false ≡ true = subst (λ (c : Cell). IsSome c) gone some in
      absurd (false≢true none));
  alone = λ id some.
      let a = same (λ e. pick e == id && other e == 0) in
      let b = same (λ e. pick e == id) in
      let most = alone id (omega (arith, some, a)) in
      omega (arith, b, most);
}

module _ (j : Joining) where
  -- from a new target: the old sides, and what is placed
  module _ (hs ht : List Heading) (near : Tables) (old : PairState) (n : ℕ) (may : MayMap (flip (outer_on j)) ht hs near old n) where
    abbrev s : Rows
    s = table_at 0 old.target

    abbrev t : Rows
    t = table_at 1 old.target

    abbrev r : Rows
    r = table_at 0 old.source

    abbrev m : Pairs
    m = old.memory

    abbrev new : Rows
    new = table_at 0 near

    abbrev kept : Pairs
    kept = kept_in r m new

    fits : JoinFits j hs ht
    fits = may.sound.pair.fits

    parts : ArePartition j.first j.second
    parts = fits.places

    is : IsOuter j s t r m
    is = may.sound.pair.related

    both : TwoTables (length j.first) (length j.second) old.target
    both = two_tables (length j.first) (length j.second) hs old.target fits.source may.sound.pair.target_of

    near_one : OneTable (length j.first + length j.second) near
    near_one = one_table (length j.first + length j.second) ht near fits.target may.near_of

    abbrev start : Placing
    start = beginning s t r m new n

    abbrev end : Placing
    end = ending j r m start new

    abbrev es : Pairs
    es = placed j r m start new

    abbrev first : Rows
    first = standing first_of es end.first

    abbrev second : Rows
    second = standing second_of es end.second

    s_sound : RowsSound n s
    s_sound = table_sound n 0 old.target may.sound.target

    t_sound : RowsSound n t
    t_sound = table_sound n 1 old.target may.sound.target

    new_sound : RowsSound n new
    new_sound = table_sound n 0 near may.near_sound

    ready : Ready j parts s t r m kept is both.first_wide both.second_wide n 0 start
    ready = record {
      next = omega arith;
      first = start_half first_of second_of first_picks s m kept n is.first (below_sound n s s_sound) is.none may.sound.memory is.joined.rises (kept_rise r m 0 new near_one.rise) (kept_paired r m new);
      second = start_half second_of first_of second_picks t m kept n is.second (below_sound n t t_sound) is.none may.sound.memory is.joined.rises (kept_rise r m 0 new near_one.rise) (kept_paired r m new);
      one = λ a b.
          let fewer = sub_count (has_pair a b) 0 m kept is.joined.rises (kept_rise r m 0 new near_one.rise) (kept_paired r m new) in
          let once = is.joined.one a b in
          omega (arith, fewer, once);
    }

    comes : AllCome j parts s t r m kept is both.first_wide both.second_wide n 0 new
    comes = record { rise = near_one.rise; keeps = are_kept r m 0 new near_one.rise; sound = new_sound; memory = may.sound.memory }

    at_end : Ended j parts s t r m kept is both.first_wide both.second_wide n start end
    at_end = ended j parts s t r m kept is both.first_wide both.second_wide n 0 start new ready comes

    found_at_end : AreFound j (with_absent j.first end.first) (with_absent j.second end.second) es new
    found_at_end = ended_found j parts s t r m kept is both.first_wide both.second_wide n 0 start new ready comes

    found : AreFound j (with_absent j.first first) (with_absent j.second second) es new
    found = found_stands j es end.first end.second es new (all_stand first_of es) (all_stand second_of es) found_at_end

    -- the entries are those that are taken at the end
    same : (f : ℕ × ℕ × ℕ → Bool) → count_by f es ≡ count_by f end.taken
    same f = let all = count_placed j r m f start new in omega (arith, all)

    pub backward_kept : IsPair (flip (outer_on j)) ht hs (record { source = near; target = first ∷ second ∷ []; memory = es })
    backward_kept = record {
      fits = fits;
      related = record {
        joined = record {
          rises = found_rises j (with_absent j.first end.first) (with_absent j.second end.second) 0 es new near_one.rise found_at_end;
          one = λ a b. let once = at_end.ready.one a b in let c = same (has_pair a b) in omega (arith, once, c);
          there = found_there j (with_absent j.first first) (with_absent j.second second) es new found;
          rows = found_joined j parts (with_absent j.first first) (with_absent j.second second) es new near_one.wide found;
        };
        none = same (has_pair 0 0) ∙ at_end.ready.first.none;
        first = halves_of first_of second_of first_picks end.first es end.taken same at_end.ready.first.rise at_end.ready.first.alone;
        second = halves_of second_of first_of second_picks end.second es end.taken same at_end.ready.second.rise at_end.ready.second.alone;
      };
      source_of = may.near_of;
      target_of = two_of (length j.first) (length j.second) hs first second fits.source
          (filter_rise (λ id. stands first_of es id) 0 end.first (rise_more 0 1 end.first (omega arith) at_end.ready.first.rise))
          (filter_wide (λ id. stands first_of es id) (length j.first) end.first (at_end.grown.first_wide both.first_wide))
          (filter_rise (λ id. stands second_of es id) 0 end.second (rise_more 0 1 end.second (omega arith) at_end.ready.second.rise))
          (filter_wide (λ id. stands second_of es id) (length j.second) end.second (at_end.grown.second_wide both.second_wide));
    }

    sound_at_end : RowsSound end.next end.first × RowsSound end.next end.second
    sound_at_end = at_end.grown.sound s_sound t_sound

    pub backward_sound : RowsSound end.next first × RowsSound end.next second
    backward_sound = (
      filter_sound (λ id. stands first_of es id) end.next end.first sound_at_end.0,
      filter_sound (λ id. stands second_of es id) end.next end.second sound_at_end.1,
    )

    pub backward_pairs_sound : PairsSound end.next es
    backward_pairs_sound = found_below j end.first end.second n end.next es new at_end.ready.next at_end.ready.first.below at_end.ready.second.below new_sound found_at_end

    pub backward_drawn : (id : ℕ) → HasRow id (first ∷ second ∷ []) → InPair id old ⊎ (n ≤ id)
    backward_drawn id (inl some) =
        elim (at_end.grown.first_drawn id (filter_has (λ id. stands first_of es id) end.first id some)) [
          | inl here ↦ inl (inr (row_in 0 old.target id here))
          | inr drawn ↦ inr drawn
        ]
    backward_drawn id (inr (inl some)) =
        elim (at_end.grown.second_drawn id (filter_has (λ id. stands second_of es id) end.second id some)) [
          | inl here ↦ inl (inr (row_in 1 old.target id here))
          | inr drawn ↦ inr drawn
        ]
    backward_drawn id (inr (inr none)) = absurd none

    pub backward_next : n ≤ end.next
    backward_next = at_end.ready.next

  -- still
  cell_row : (c : Cell) → IsSome c → (X : Type 0) → ((row : List Value) → c ≡ Some row → X) → X
  cell_row (Some row) h X f = f row refl
  cell_row None h X f = absurd (cc)

  -- unchanged rows keep their entries
  still_from : (s t r : Rows) (m : Pairs) → IsOuter j s t r m → (d : Placing) (es : Pairs) → AllPaired m es → AreThere (with_absent j.first s) (with_absent j.second t) es → (placed j r m d (shown j s t es) ≡ es) × (ending j r m d (shown j s t es) ≡ d)
  still_from s t r m is d [] paired there = (refl, refl)
  still_from s t r m is d (e ∷ es) paired there =
      let a = with_absent j.first s in
      let b = with_absent j.second t in
      cell_row (row_at j a b e.1 e.2) (there_cells j (row_of a e.1) (row_of b e.2) there.0.0 there.0.1) ((placed j r m d (shown j s t (e ∷ es)) ≡ e ∷ es) × (ending j r m d (shown j s t (e ∷ es)) ≡ d))
      (λ row at.
      let found : row_of r e.0 ≡ Some row = ap (λ (rows : Rows). row_of rows e.0) is.joined.rows ∙ joined_found j (with_absent j.first s) (with_absent j.second t) m e.0 is.joined.there ∙ ap (row_for j (with_absent j.first s) (with_absent j.second t)) paired.0 ∙ at in
      let pair = paired.0 in
      let same = row_same row in
      let is_kept : unchanged (row_of r e.0) (pair_of m e.0) row ≡ Some (e.1, e.2) = rw (found, pair, same) refl in
      let place : place_row j r m d (e.0, row) ≡ record { first = e.1; second = e.2; after = d } = ap (λ (o : Option (ℕ × ℕ)). place_by j r m d (e.0, row) o) is_kept in
      let rest = still_from s t r m is d es paired.1 there.1 in
      let rows : shown j s t (e ∷ es) ≡ (e.0, row) ∷ shown j s t es = ap (λ (c : Cell). with_row e.0 c (shown j s t es)) at in (
        ap (λ (xs : Rows). placed j r m d xs) rows
            ∙ ap (λ (p : Placed). (e.0, p.first, p.second) ∷ placed j r m p.after (shown j s t es)) place
            ∙ ap (λ (rest : Pairs). e ∷ rest) rest.0,
        ap (λ (xs : Rows). ending j r m d xs) rows ∙ ap (λ (p : Placed). ending j r m p.after (shown j s t es)) place ∙ rest.1,
      ))

  -- so the old target gives the old memory
  still_placed : (s t r : Rows) (m : Pairs) → IsOuter j s t r m → (d : Placing) → (placed j r m d r ≡ m) × (ending j r m d r ≡ d)
  still_placed s t r m is d =
      let both = still_from s t r m is d m (all_paired 0 m is.joined.rises) is.joined.there in
      (ap (λ (xs : Rows). placed j r m d xs) is.joined.rows ∙ both.0, ap (λ (xs : Rows). ending j r m d xs) is.joined.rows ∙ both.1)

  -- an old target gives the old source
  pub backward_still : (hs ht : List Heading) (old : PairState) (n : ℕ) → MayMap (flip (outer_on j)) ht hs old.source old n → outer_backward j old.source (exchanged old) n ≡ record { far = old.target; memory = old.memory; next = n }
  backward_still hs ht old n may =
      let fits : JoinFits j hs ht = may.sound.pair.fits in
      let s = table_at 0 old.target in
      let t = table_at 1 old.target in
      let r = table_at 0 old.source in
      let m = old.memory in
      let is : IsOuter j s t r m = may.sound.pair.related in
      let two = two_tables (length j.first) (length j.second) hs old.target fits.source may.sound.pair.target_of in
      let start = beginning s t r m r n in
      let same = still_placed s t r m is start in
      ap (λ (es : Pairs). record { far = standing first_of es (ending j r m start r).first ∷ standing second_of es (ending j r m start r).second ∷ []; memory = es; next = (ending j r m start r).next }) same.0
      ∙ ap (λ (end : Placing). record { far = standing first_of m end.first ∷ standing second_of m end.second ∷ []; memory = m; next = end.next }) same.1
      ∙ ap (λ (rows : Rows). record { far = rows ∷ standing second_of m t ∷ []; memory = m; next = n }) (standing_all first_of second_of first_picks s m is.first)
      ∙ ap (λ (rows : Rows). record { far = s ∷ rows ∷ []; memory = m; next = n }) (standing_all second_of first_of second_picks t m is.second)
      ∙ ap (λ (far : Tables). record { far = far; memory = m; next = n }) two.is

  -- the halves of all entries
  first_paired : (s t r : Rows) (all es : Pairs) → PartsFound j (with_absent j.first s) (with_absent j.second t) r es → ArePaired first_of j.first s r all (with_it first_of es)
  first_paired s t r all [] found = tt
  first_paired s t r all (e ∷ es) found =
      let rest = first_paired s t r all es found.1 in
      by_test (e.1 == 0)
      (λ q. rw q rest)
      (λ q. let here = found.0.0 ∙ absent_other j.first s e.1 (above_zero e.1 q) in rw q (here, rest))

  second_paired : (s t r : Rows) (all es : Pairs) → PartsFound j (with_absent j.first s) (with_absent j.second t) r es → ArePaired second_of j.second t r all (with_it second_of es)
  second_paired s t r all [] found = tt
  second_paired s t r all (e ∷ es) found =
      let rest = second_paired s t r all es found.1 in
      by_test (e.2 == 0)
      (λ q. rw q rest)
      (λ q. let here = found.0.1 ∙ absent_other j.second t e.2 (above_zero e.2 q) in rw q (here, rest))

  -- no row is in no entry
  none_alone : (pick other : ℕ × ℕ × ℕ → ℕ) (picks : ArePicks pick other) (s : Rows) (m : Pairs) → AreHalves pick other s m → alone pick (with_it pick m) s ≡ []
  none_alone pick other picks s m halves =
      let rise : RiseFrom 0 s = rise_more 0 1 s (omega arith) halves.rise in
      ext 0 (alone pick (with_it pick m) s) [] (filter_rise (λ i. not (stands pick (with_it pick m) i)) 0 s rise) tt
      (λ id.
      by_test (stands pick (with_it pick m) id)
      (λ q. filter_lost (λ i. not (stands pick (with_it pick m) i)) s id (ap not q))
      (λ q.
      filter_found (λ i. not (stands pick (with_it pick m) i)) s id (ap not q)
      ∙ by_option (row_of s id)
      (λ none. none)
      (λ row at.
      let some : IsSome (row_of s id) = rw at refl in
      let there = counted_with pick other picks m id (row_from 1 s id halves.rise some) (halves.each id some) in
      absurd (false≢true (sym q ∙ there)))))

  -- the source is read back
  pub outer_recovered : (s t r : Rows) (m : Pairs) → ArePartition j.first j.second → RowsWide (length j.first) s → RowsWide (length j.second) t → IsOuter j s t r m
      → (side_read first_of j.first r (with_it first_of m) [] ≡ s) × (side_read second_of j.second r (with_it second_of m) [] ≡ t)
  outer_recovered s t r m parts wide other_wide is =
      let found = parts_found j parts (with_absent j.first s) (with_absent j.second t) r m is.joined (absent_wide j.first s wide) (absent_wide j.second t other_wide) in
      let first = side_is_read first_of j.first s r (with_it first_of m) (rise_more 0 1 s (omega arith) is.first.rise) (first_paired s t r (with_it first_of m) m found) in
      let second = side_is_read second_of j.second t r (with_it second_of m) (rise_more 0 1 t (omega arith) is.second.rise) (second_paired s t r (with_it second_of m) m found) in (
        sym (ap (λ (rows : Rows). side_read first_of j.first r (with_it first_of m) rows) (none_alone first_of second_of first_picks s m is.first)) ∙ first,
        sym (ap (λ (rows : Rows). side_read second_of j.second r (with_it second_of m) rows) (none_alone second_of first_of second_picks t m is.second)) ∙ second,
      )

  pub backward_recovered : (hs ht : List Heading) (p : PairState) → IsPair (flip (outer_on j)) ht hs p → (outer_on j).read_source p.source [] p.memory ≡ p.target
  backward_recovered hs ht p pair =
      let fits : JoinFits j hs ht = pair.fits in
      let s = table_at 0 p.target in
      let t = table_at 1 p.target in
      let r = table_at 0 p.source in
      let m = p.memory in
      let is : IsOuter j s t r m = pair.related in
      let two = two_tables (length j.first) (length j.second) hs p.target fits.source pair.target_of in
      let both = outer_recovered s t r m fits.places two.first_wide two.second_wide is in
      ap (λ (rows : Rows). rows ∷ side_read second_of j.second r (with_it second_of m) [] ∷ []) both.0
      ∙ ap (λ (rows : Rows). s ∷ rows ∷ []) both.1
      ∙ two.is

  -- from a new target
  pub backward_half : HalfLaws (flip (outer_on j))
  backward_half = record {
    kept = λ ht hs near old n may. backward_kept hs ht near old n may;
    still = λ ht hs old n may. backward_still hs ht old n may;
    below = λ ht hs near old n may. record {
      rises = backward_next hs ht near old n may;
      far = let both = backward_sound hs ht near old n may in (both.0, (both.1, tt));
      memory = backward_pairs_sound hs ht near old n may;
      drawn = λ id has. inr (backward_drawn hs ht near old n may id has);
    };
    recovered = λ ht hs p reads pair. backward_recovered hs ht p pair;
    readable = λ ht hs fits. inr refl;
    empty = λ ht hs fits. empty_outer j hs ht;
    closed_more = λ n k h closed. term_more n k h j.condition closed;
    aux_rises = λ ht hs p pair. tt;
    aux_many = λ hs ht p q one two. refl;
    local = λ local. absurd (false≢true local);
  }

-- the laws both ways
pub outer_on_laws : (j : Joining) → Laws (outer_on j)
outer_on_laws j = (forward_half j, backward_half j)
