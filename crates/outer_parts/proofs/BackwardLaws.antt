-- OUTER JOIN on a condition, from R: closed identifiers are a footprint.
use Rattle.std.proofs.Common.{◌≡◌, ℕ, ◌≤◌, List, [], ◌∷◌, Bool, true, false, not, Some, refl, ap, ◌∙◌, arith}
use Rattle.par_base.specs.declared.value.Value.{Value}
use Rattle.row_store.specs.Rows.{Rows, row_of}
use Rattle.id_memory.specs.Pairs.{Pairs}
use Rattle.op_law.specs.Identifiers.{has_id}
use Rattle.op_law.specs.Local.{only, rows_only}
use Rattle.op_law.specs.Meaning.{Mapped, PairState, exchanged, flip}
use Rattle.op_law.specs.Premises.{IsPair, pair_after}
use Rattle.op_law.specs.Tables.{AllRise, Heading, Tables}
use Rattle.op_law.proofs.SoundLaws.{sound_at}
use Rattle.op_rows.specs.inner.Tabulated.{all_rise}
use Rattle.row_changes.specs.Changed.{TableChanges, changed_tables}
use Rattle.row_changes.specs.Touched.{touched}
use Rattle.operator_changes.proofs.DrawnLemmas.{over_passes}
use Rattle.operator_changes.specs.Calls.{MayChange}
use Rattle.operator_changes.specs.Footprint.{IsFootprint, passes}
use Rattle.pair_rows.proofs.ChangedLemmas.{rows_of}
use Rattle.pair_rows.specs.Halves.{first_of, second_of}
use Rattle.pair_rows.specs.Shown.{Joining}
use Rattle.pair_rows.specs.Sides.{table_at}
use Rattle.pair_rows.specs.inner.Changed.{AreRowsOf}
use Rattle.pair_rows.specs.inner.TwoSides.{one_table, table_sound, two_tables}
use Rattle.outer_law.specs.Entries.{IsOuter}
use Rattle.outer_law.specs.OuterOn.{outer_backward, outer_on}
use Rattle.outer_law.specs.Placed.{Placing, beginning, ending, placed, standing}
use Rattle.outer_law.proofs.BackwardLaws.{backward_half}
use Rattle.pair_parts.specs.Parts.{memory_only, part_of_pair}
use Rattle.pair_parts.proofs.SplitLaws.{splits_behind}
use Rattle.cond_parts.specs.Apart.{MapsPairApart}
use Rattle.cond_parts.proofs.FootLemmas.{not_touched, part_may, rows_untouched, touched_passes, untouched}
use Rattle.cond_parts.proofs.MemoryLemmas.{Brings, Each, brings_first, brings_second, each_brings, rows_of_each}
use Rattle.cond_parts.proofs.PartLaws.{two_same}
use Rattle.cond_parts.proofs.TableLemmas.{table_only}
use Rattle.outer_parts.specs.Backward.{ClosedBackwardMapsApart, ClosedIsBackwardFootprint, IsClosedBackward}
use Rattle.outer_parts.specs.Closed.{IsOuterClosed}
use Rattle.outer_parts.proofs.PartLaws.{closed_splits}
use Rattle.outer_parts.proofs.PlacedLemmas.{AllPart, all_part, part_placing}
use Rattle.outer_parts.proofs.StandLemmas.{new_half, old_half, standing_part, standing_rest}
use Rattle.outer_parts.proofs.StartLemmas.{memory_same, start_fit, start_part}

-- a pair is one from either side
turned_back : (j : Joining) (hs ht : List Heading) (p : PairState) → IsPair (flip (outer_on j)) hs ht p → IsPair (outer_on j) ht hs (exchanged p)
turned_back j hs ht p pair = record { fits = pair.fits; related = pair.related; source_of = pair.target_of; target_of = pair.source_of }

turned_on : (j : Joining) (hs ht : List Heading) (p : PairState) → IsPair (outer_on j) ht hs (exchanged p) → IsPair (flip (outer_on j)) hs ht p
turned_on j hs ht p pair = record { fits = pair.fits; related = pair.related; source_of = pair.target_of; target_of = pair.source_of }

-- S, T and the memory from what was placed
abbrev mapped_from : Pairs → Placing → Mapped
mapped_from pairs last = record { far = standing first_of pairs last.first ∷ standing second_of pairs last.second ∷ []; memory = pairs; next = last.next }

-- S, T and the memory from R
abbrev mapped_of : Joining → Rows → Rows → Rows → Pairs → Rows → ℕ → Mapped
mapped_of j s t r m new n = mapped_from (placed j r m (beginning s t r m new n) new) (ending j r m (beginning s t r m new n) new)

module _ (j : Joining) (near : TableChanges) (p : PairState) (n : ℕ) (ids : List ℕ) (may : MayChange (flip (outer_on j)) near p n) (c : IsClosedBackward j near p n ids) where
  -- what passes, and what is changed
  abbrev P : ℕ → Bool
  P = passes ids n

  abbrev C : ℕ → Bool
  C = has_id (touched near)

  -- the new R
  abbrev whole : Tables
  whole = changed_tables p.source near

  -- old S, old T, old R, the memory and new R
  abbrev s : Rows
  s = table_at 0 p.target

  abbrev t : Rows
  t = table_at 1 p.target

  abbrev r : Rows
  r = table_at 0 p.source

  abbrev m : Pairs
  m = p.memory

  abbrev new : Rows
  new = table_at 0 (changed_tables p.source near)

  -- what is placed
  abbrev start : Placing
  start = beginning (table_at 0 p.target) (table_at 1 p.target) (table_at 0 p.source) p.memory (table_at 0 (changed_tables p.source near)) n

  abbrev pairs : Pairs
  pairs = placed j (table_at 0 p.source) p.memory start (table_at 0 (changed_tables p.source near))

  abbrev last : Placing
  last = ending j (table_at 0 p.source) p.memory start (table_at 0 (changed_tables p.source near))

  is : IsOuter j s t r m
  is = may.may.sound.pair.related

  rise : AllRise p.source
  rise = all_rise may.hs p.source may.may.sound.pair.source_of

  in_part_of : (q : ℕ) → C q ≡ true → P q ≡ true
  in_part_of = touched_passes ids n near c.touches

  high : (q : ℕ) → n ≤ q → P q ≡ true
  high q h = over_passes ids n q h

  zero : P 0 ≡ true
  zero = let own = c.absent in rw own refl

  real : (id : ℕ) (row : List Value) → row_of new id ≡ Some row → 1 ≤ n
  real id row at = let below = (sound_at n new id row (table_sound n 0 whole may.may.near_sound) at).0 in let low = below.0 in let under = below.1 in omega (arith, low, under)

  same_r : (q : ℕ) → C q ≡ false → row_of new q ≡ row_of r q
  same_r q out = untouched 0 p.source near rise q out

  are : AreRowsOf new new
  are = rows_of 0 new (one_table _ may.hs whole may.may.sound.pair.fits.target may.may.near_of).rise

  same_pairs : (X : ℕ → Bool) → ((q : ℕ) → X q ≡ true → C q ≡ false) → memory_only X pairs ≡ memory_only X m
  same_pairs = memory_same j C P n s t r m new is may.may.sound.memory in_part_of high zero real same_r c.brings (rows_untouched 0 p.source near rise) start are

  brings : Each (Brings P) m
  brings = each_brings P m is.joined.rises c.brings.rows

  all : AllPart j C P n s t r m new is may.may.sound.memory in_part_of high zero real same_r c.brings start new
  all = all_part j C P n s t r m new is may.may.sound.memory in_part_of high zero real same_r c.brings start new are (start_fit j C P n s t r m new is may.may.sound.memory in_part_of high zero real same_r c.brings)

  begins : beginning (rows_only P s) (rows_only P t) (rows_only P r) (memory_only P m) (rows_only P new) n ≡ part_placing j C P n s t r m new is may.may.sound.memory in_part_of high zero real same_r c.brings start
  begins = start_part j C P n s t r m new is may.may.sound.memory in_part_of high zero real same_r c.brings

  -- what the part places
  part_pairs : placed j (rows_only P r) (memory_only P m) (beginning (rows_only P s) (rows_only P t) (rows_only P r) (memory_only P m) (rows_only P new) n) (rows_only P new) ≡ memory_only P pairs
  part_pairs = ap (λ (d : Placing). placed j (rows_only P r) (memory_only P m) d (rows_only P new)) begins ∙ all.pairs

  part_last : ending j (rows_only P r) (memory_only P m) (beginning (rows_only P s) (rows_only P t) (rows_only P r) (memory_only P m) (rows_only P new) n) (rows_only P new) ≡ part_placing j C P n s t r m new is may.may.sound.memory in_part_of high zero real same_r c.brings last
  part_last = ap (λ (d : Placing). ending j (rows_only P r) (memory_only P m) d (rows_only P new)) begins ∙ all.last

  -- the mapping of the part, from what it places
  part_mapped : outer_backward j (only P whole) (exchanged (part_of_pair P p)) n ≡ mapped_from (memory_only P pairs) (part_placing j C P n s t r m new is may.may.sound.memory in_part_of high zero real same_r c.brings last)
  part_mapped =
      ap (λ (x : Rows). mapped_of j x (table_at 1 (only P p.target)) (table_at 0 (only P p.source)) (memory_only P m) (table_at 0 (only P whole)) n) (table_only P 0 p.target)
      ∙ ap (λ (x : Rows). mapped_of j (rows_only P s) x (table_at 0 (only P p.source)) (memory_only P m) (table_at 0 (only P whole)) n) (table_only P 1 p.target)
      ∙ ap (λ (x : Rows). mapped_of j (rows_only P s) (rows_only P t) x (memory_only P m) (table_at 0 (only P whole)) n) (table_only P 0 p.source)
      ∙ ap (λ (x : Rows). mapped_of j (rows_only P s) (rows_only P t) (rows_only P r) (memory_only P m) x n) (table_only P 0 whole)
      ∙ ap (λ (es : Pairs). mapped_from es (ending j (rows_only P r) (memory_only P m) (beginning (rows_only P s) (rows_only P t) (rows_only P r) (memory_only P m) (rows_only P new) n) (rows_only P new))) part_pairs
      ∙ ap (λ (d : Placing). mapped_from (memory_only P pairs) d) part_last

  -- elsewhere S and T are as they were
  far_rest : only (λ q. not (P q)) (outer_backward j whole (exchanged p) n).far ≡ only (λ q. not (P q)) p.target
  far_rest =
      let Q : ℕ → Bool = λ q. not (P q) in
      let two = two_tables _ _ may.ht p.target may.may.sound.pair.fits.source may.may.sound.pair.target_of in
      two_same
      (standing_rest C P first_of second_of m pairs s in_part_of same_pairs c.brings.first_still (brings_first P m brings) is.first last.first all.fit.first_rest)
      (standing_rest C P second_of first_of m pairs t in_part_of same_pairs c.brings.second_still (brings_second P m brings) is.second last.second all.fit.second_rest)
      ∙ ap (only Q) two.is

  -- closed identifiers are closed in both memories
  closed_before : IsOuterClosed P m
  closed_before = record {
    absent = zero;
    rows = c.brings.rows;
    first = old_half C P first_of second_of m pairs s in_part_of same_pairs c.brings.first_still (brings_first P m brings) is.first;
    second = old_half C P second_of first_of m pairs t in_part_of same_pairs c.brings.second_still (brings_second P m brings) is.second;
  }

  closed_after : IsOuterClosed P pairs
  closed_after = record {
    absent = zero;
    rows = rows_of_each P pairs all.brings;
    first = new_half C P first_of second_of m pairs s in_part_of same_pairs c.brings.first_still (brings_first P m brings) is.first;
    second = new_half C P second_of first_of m pairs t in_part_of same_pairs c.brings.second_still (brings_second P m brings) is.second;
  }

  -- the pairs, as they are seen from S and T
  pair_before : IsPair (outer_on j) may.ht may.hs (exchanged p)
  pair_before = turned_back j may.hs may.ht p may.may.sound.pair

  pair_now : IsPair (outer_on j) may.ht may.hs (exchanged (pair_after (flip (outer_on j)) (changed_tables p.source near) p n))
  pair_now = turned_back j may.hs may.ht (pair_after (flip (outer_on j)) whole p n) ((backward_half j).kept may.hs may.ht whole p n may.may)

  part_pair : IsPair (flip (outer_on j)) may.hs may.ht (part_of_pair P p)
  part_pair = turned_on j may.hs may.ht (part_of_pair P p) ((closed_splits j P may.ht may.hs (exchanged p) pair_before closed_before).related may.ht may.hs pair_before)

  pub backward_foot : IsFootprint (flip (outer_on j)) near p n ids
  backward_foot = record {
    rise = c.rise;
    touches = c.touches;
    may = part_may (flip (outer_on j)) P may.hs may.ht whole p n may.may part_pair;
    far = ap (λ (x : Mapped). x.far) part_mapped
        ∙ two_same
        (standing_part C P first_of second_of m pairs s in_part_of same_pairs c.brings.first_still (brings_first P m brings) is.first last.first all.fit.first_real)
        (standing_part C P second_of first_of m pairs t in_part_of same_pairs c.brings.second_still (brings_second P m brings) is.second last.second all.fit.second_real);
    memory = ap (λ (x : Mapped). x.memory) part_mapped;
    next = ap (λ (x : Mapped). x.next) part_mapped;
    rest = far_rest;
    memory_rest = same_pairs (λ q. not (P q)) (not_touched C P in_part_of);
  }

  pub backward_apart : MapsPairApart (flip (outer_on j)) near p n P
  backward_apart = record {
    splits = splits_behind (outer_on j) P (exchanged p) (closed_splits j P may.ht may.hs (exchanged p) pair_before closed_before);
    apart = record {
      splits = splits_behind (outer_on j) P (exchanged (pair_after (flip (outer_on j)) whole p n)) (closed_splits j P may.ht may.hs (exchanged (pair_after (flip (outer_on j)) whole p n)) pair_now closed_after);
      at_source = refl;
      at_target = refl;
    };
  }

-- THE FOOTPRINT LAW, BACKWARD
pub closed_is_backward : ClosedIsBackwardFootprint
closed_is_backward j near p n ids may c = backward_foot j near p n ids may c

-- THE LAW OF WHAT IS KEPT, BACKWARD
pub backward_maps_apart : ClosedBackwardMapsApart
backward_maps_apart j near p n ids may c = backward_apart j near p n ids may c
