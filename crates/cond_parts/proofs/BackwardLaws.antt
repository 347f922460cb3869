-- JOIN ON a condition, from R: closed identifiers are a footprint.
use Rattle.std.proofs.Common.{◌≡◌, ℕ, ◌≤◌, List, [], ◌∷◌, Bool, true, false, not, refl, ap, ◌∙◌}
use Rattle.row_store.specs.Rows.{Rows, row_of}
use Rattle.id_memory.specs.Pairs.{Pairs}
use Rattle.op_law.specs.Identifiers.{has_id}
use Rattle.op_law.specs.Local.{only, rows_only}
use Rattle.op_law.specs.Meaning.{Mapped, PairState, exchanged, flip}
use Rattle.op_law.specs.Premises.{IsPair, pair_after}
use Rattle.op_law.specs.Tables.{AllRise, Tables}
use Rattle.op_rows.specs.inner.RowwiseLocal.{well_only}
use Rattle.op_rows.specs.inner.Tabulated.{all_rise}
use Rattle.row_changes.specs.Changed.{TableChanges, changed_tables}
use Rattle.row_changes.specs.Touched.{touched}
use Rattle.operator_changes.proofs.DrawnLemmas.{over_passes}
use Rattle.operator_changes.specs.Calls.{MayChange}
use Rattle.operator_changes.specs.Footprint.{IsFootprint, passes}
use Rattle.pair_rows.proofs.ChangedLemmas.{rows_of}
use Rattle.pair_rows.specs.Halves.{first_of, second_of}
use Rattle.pair_rows.specs.Shown.{IsJoined, Joining}
use Rattle.pair_rows.specs.Sides.{table_at}
use Rattle.pair_rows.specs.Stays.{staying}
use Rattle.pair_rows.specs.inner.Changed.{AreRowsOf}
use Rattle.pair_rows.specs.inner.TwoSides.{one_table, two_tables}
use Rattle.op_cond_join.specs.Assigned.{Assigning, assigned, beginning, ending}
use Rattle.op_cond_join.specs.JoinOn.{join_backward, join_on}
use Rattle.pair_parts.specs.Apart.{SameElsewhere}
use Rattle.pair_parts.specs.Parts.{memory_only, part_of_pair}
use Rattle.cond_parts.specs.Backward.{BringsStill, ClosedIsBackwardFootprint, IsClosedBackward}
use Rattle.cond_parts.specs.Apart.{ClosedBackwardMapsApart, MapsPairApart}
use Rattle.cond_parts.specs.Closed.{BringsEntry, IsClosedIn}
use Rattle.op_cond_join.specs.inner.JoinOnLaws.{backward_half}
use Rattle.pair_parts.proofs.SplitLaws.{keeps_behind, splits_behind, turned}
use Rattle.cond_parts.proofs.AssignedLemmas.{AllPart, all_part, start_fit, start_part}
use Rattle.cond_parts.proofs.FootLemmas.{not_touched, part_may, side_untouched, rows_untouched, touched_passes, untouched}
use Rattle.cond_parts.proofs.MemoryLemmas.{Brings, BringsIt, rows_of_each, Each, brings_first, brings_second, each_brings}
use Rattle.cond_parts.proofs.PartLaws.{closed_keeps_apart, closed_splits, part_related, two_same}
use Rattle.cond_parts.proofs.StayLemmas.{new_part, old_part, stays_part, stays_rest}
use Rattle.cond_parts.proofs.TableLemmas.{table_only}
use Rattle.cond_parts.proofs.UnchangedLemmas.{memory_same}

-- S, T and the memory from what was assigned
abbrev mapped_from : Pairs → Pairs → Assigning → Mapped
mapped_from m pairs last = record { far = staying first_of m pairs last.first ∷ staying second_of m pairs last.second ∷ []; memory = pairs; next = last.next }

-- S, T and the memory from R
abbrev mapped_of : Joining → Rows → Rows → Rows → Pairs → Rows → ℕ → Mapped
mapped_of j s t r m new n = mapped_from m (assigned j r m (beginning s t r m new n) new) (ending j r m (beginning s t r m new n) new)

module _ (j : Joining) (near : TableChanges) (p : PairState) (n : ℕ) (ids : List ℕ) (may : MayChange (flip (join_on j)) near p n) (c : IsClosedBackward j near p n ids) where
  -- what passes, and what is changed
  abbrev P : ℕ → Bool
  P = passes ids n

  abbrev C : ℕ → Bool
  C = has_id (touched near)

  -- the new R
  abbrev whole : Tables
  whole = changed_tables p.source near

  -- old S, old T, old R, the memory and new R
  abbrev s : Rows
  s = table_at 0 p.target

  abbrev t : Rows
  t = table_at 1 p.target

  abbrev r : Rows
  r = table_at 0 p.source

  abbrev m : Pairs
  m = p.memory

  abbrev new : Rows
  new = table_at 0 (changed_tables p.source near)

  -- what is assigned
  abbrev start : Assigning
  start = beginning (table_at 0 p.target) (table_at 1 p.target) (table_at 0 p.source) p.memory (table_at 0 (changed_tables p.source near)) n

  abbrev pairs : Pairs
  pairs = assigned j (table_at 0 p.source) p.memory start (table_at 0 (changed_tables p.source near))

  abbrev last : Assigning
  last = ending j (table_at 0 p.source) p.memory start (table_at 0 (changed_tables p.source near))

  is : IsJoined j s t r m
  is = may.may.sound.pair.related

  rise : AllRise p.source
  rise = all_rise may.hs p.source may.may.sound.pair.source_of

  in_part_of : (q : ℕ) → C q ≡ true → P q ≡ true
  in_part_of = touched_passes ids n near c.touches

  high : (q : ℕ) → n ≤ q → P q ≡ true
  high q h = over_passes ids n q h

  same_r : (q : ℕ) → C q ≡ false → row_of new q ≡ row_of r q
  same_r q out = untouched 0 p.source near rise q out

  are : AreRowsOf new new
  are = rows_of 0 new (one_table _ may.hs whole may.may.sound.pair.fits.target may.may.near_of).rise

  same_pairs : (X : ℕ → Bool) → ((q : ℕ) → X q ≡ true → C q ≡ false) → memory_only X pairs ≡ memory_only X m
  same_pairs = memory_same j C P n s t r m new is may.may.sound.memory in_part_of high same_r c.brings (rows_untouched 0 p.source near rise) start are

  brings : Each (Brings P) m
  brings = each_brings P m is.rises c.brings.rows

  all : AllPart j C P n s t r m new is may.may.sound.memory in_part_of high same_r c.brings start new
  all = all_part j C P n s t r m new is may.may.sound.memory in_part_of high same_r c.brings start new are (start_fit j C P n s t r m new is may.may.sound.memory in_part_of high same_r c.brings)

  begins : beginning (rows_only P s) (rows_only P t) (rows_only P r) (memory_only P m) (rows_only P new) n ≡ record { first = rows_only P start.first; second = rows_only P start.second; taken = memory_only P start.taken; next = start.next }
  begins = start_part j C P n s t r m new is may.may.sound.memory in_part_of high same_r c.brings

  -- what the part assigns
  part_pairs : assigned j (rows_only P r) (memory_only P m) (beginning (rows_only P s) (rows_only P t) (rows_only P r) (memory_only P m) (rows_only P new) n) (rows_only P new) ≡ memory_only P pairs
  part_pairs = ap (λ (d : Assigning). assigned j (rows_only P r) (memory_only P m) d (rows_only P new)) begins ∙ all.pairs

  part_last : ending j (rows_only P r) (memory_only P m) (beginning (rows_only P s) (rows_only P t) (rows_only P r) (memory_only P m) (rows_only P new) n) (rows_only P new)
      ≡ record { first = rows_only P last.first; second = rows_only P last.second; taken = memory_only P last.taken; next = last.next }
  part_last = ap (λ (d : Assigning). ending j (rows_only P r) (memory_only P m) d (rows_only P new)) begins ∙ all.last

  -- the mapping of the part, from what it assigns
  part_mapped : join_backward j (only P whole) (exchanged (part_of_pair P p)) n
      ≡ mapped_from (memory_only P m) (memory_only P pairs) (record { first = rows_only P last.first; second = rows_only P last.second; taken = memory_only P last.taken; next = last.next })
  part_mapped =
      tables
      ∙ ap (λ (es : Pairs). mapped_from (memory_only P m) es (ending j (rows_only P r) (memory_only P m) (beginning (rows_only P s) (rows_only P t) (rows_only P r) (memory_only P m) (rows_only P new) n) (rows_only P new))) part_pairs
      ∙ ap (λ (d : Assigning). mapped_from (memory_only P m) (memory_only P pairs) d) part_last
    where
      tables : join_backward j (only P whole) (exchanged (part_of_pair P p)) n ≡ mapped_of j (rows_only P s) (rows_only P t) (rows_only P r) (memory_only P m) (rows_only P new) n
      tables =
          let a = table_only P 0 p.target in
          let b = table_only P 1 p.target in
          let x = table_only P 0 p.source in
          let y = table_only P 0 whole in
          rw (a, b, x, y) (refl {a = mapped_of j (rows_only P s) (rows_only P t) (rows_only P r) (memory_only P m) (rows_only P new) n})

  -- elsewhere S and T are as they were
  far_rest : only (λ q. not (P q)) (join_backward j whole (exchanged p) n).far ≡ only (λ q. not (P q)) p.target
  far_rest =
      let Q : ℕ → Bool = λ q. not (P q) in
      let two = two_tables _ _ may.ht p.target may.may.sound.pair.fits.source may.may.sound.pair.target_of in
      two_same
      (stays_rest C P first_of m pairs in_part_of same_pairs c.brings.first_still (brings_first P m brings) last.first ∙ all.fit.first_rest)
      (stays_rest C P second_of m pairs in_part_of same_pairs c.brings.second_still (brings_second P m brings) last.second ∙ all.fit.second_rest)
      ∙ ap (only Q) two.is

  part_pair : IsPair (flip (join_on j)) may.hs may.ht (part_of_pair P p)
  part_pair = record {
    fits = may.may.sound.pair.fits;
    related = part_related j P (exchanged p) is c.brings.rows;
    source_of = well_only P may.hs p.source may.may.sound.pair.source_of;
    target_of = well_only P may.ht p.target may.may.sound.pair.target_of;
  }

  pub backward_foot : IsFootprint (flip (join_on j)) near p n ids
  backward_foot = record {
    rise = c.rise;
    touches = c.touches;
    may = part_may (flip (join_on j)) P may.hs may.ht whole p n may.may part_pair;
    far = ap (λ (x : Mapped). x.far) part_mapped
        ∙ two_same
        (stays_part C P first_of m pairs in_part_of same_pairs c.brings.first_still (brings_first P m brings) last.first)
        (stays_part C P second_of m pairs in_part_of same_pairs c.brings.second_still (brings_second P m brings) last.second);
    memory = ap (λ (x : Mapped). x.memory) part_mapped;
    next = ap (λ (x : Mapped). x.next) part_mapped;
    rest = far_rest;
    memory_rest = same_pairs (λ q. not (P q)) (not_touched C P in_part_of);
  }

  -- elsewhere the new pair is as the old one
  same : SameElsewhere P (exchanged p) (exchanged (pair_after (flip (join_on j)) (changed_tables p.source near) p n))
  same = record {
    source = far_rest;
    target = side_untouched p.source near rise (λ q. not (P q)) (not_touched C P in_part_of);
    memory = same_pairs (λ q. not (P q)) (not_touched C P in_part_of);
  }

  -- an entry of a row that passes, in the old memory and in the new one
  old_entry : (pick : ℕ × ℕ × ℕ → ℕ) → BringsStill C P pick m → Each (BringsIt P pick) m → BringsEntry P pick m
  old_entry pick still own q pass e = old_part C P pick m pairs in_part_of same_pairs still own q pass ∙ e

  new_entry : (pick : ℕ × ℕ × ℕ → ℕ) → BringsStill C P pick m → Each (BringsIt P pick) m → BringsEntry P pick pairs
  new_entry pick still own q pass e = new_part C P pick m pairs in_part_of same_pairs still own q pass ∙ e

  -- they are closed in both
  closed_before : IsClosedIn P m
  closed_before = record {
    rows = c.brings.rows;
    first = old_entry first_of c.brings.first_still (brings_first P m brings);
    second = old_entry second_of c.brings.second_still (brings_second P m brings);
  }

  closed_after : IsClosedIn P pairs
  closed_after = record {
    rows = rows_of_each P pairs all.brings;
    first = new_entry first_of c.brings.first_still (brings_first P m brings);
    second = new_entry second_of c.brings.second_still (brings_second P m brings);
  }

  -- the pairs, as they are seen from S and T
  pair_before : IsPair (join_on j) may.ht may.hs (exchanged p)
  pair_before = turned (flip (join_on j)) may.hs may.ht p may.may.sound.pair

  pair_now : IsPair (join_on j) may.ht may.hs (exchanged (pair_after (flip (join_on j)) (changed_tables p.source near) p n))
  pair_now = turned (flip (join_on j)) may.hs may.ht (pair_after (flip (join_on j)) whole p n) ((backward_half j).kept may.hs may.ht whole p n may.may)

  pub backward_apart : MapsPairApart (flip (join_on j)) near p n P
  backward_apart = record {
    splits = splits_behind (join_on j) P (exchanged p) (closed_splits j P may.ht may.hs (exchanged p) pair_before closed_before);
    apart = keeps_behind (join_on j) P (exchanged p) (exchanged (pair_after (flip (join_on j)) whole p n))
        (closed_keeps_apart j P may.ht may.hs (exchanged p) (exchanged (pair_after (flip (join_on j)) whole p n)) pair_before pair_now same c.brings.rows closed_after);
  }

-- THE FOOTPRINT LAW, BACKWARD
pub closed_is_backward : ClosedIsBackwardFootprint
closed_is_backward j near p n ids may c = backward_foot j near p n ids may c

-- THE LAW OF WHAT IS KEPT, BACKWARD
pub backward_maps_apart : ClosedBackwardMapsApart
backward_maps_apart j near p n ids may c = backward_apart j near p n ids may c
