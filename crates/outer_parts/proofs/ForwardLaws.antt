-- OUTER JOIN on a condition, from S and T: closed identifiers are a footprint.
use Rattle.std.proofs.Common.{◌≡◌, ℕ, ◌+◌, ◌≤◌, List, [], ◌∷◌, length, Bool, true, false, not, refl, ap, ◌∙◌}
use Rattle.row_store.specs.Rows.{Rows, RiseFrom, row_of}
use Rattle.id_memory.specs.Pairs.{Pairs}
use Rattle.op_law.specs.Identifiers.{has_id}
use Rattle.op_law.specs.Local.{only, rows_only}
use Rattle.op_law.specs.Meaning.{Mapped, PairState}
use Rattle.op_law.specs.Premises.{IsPair, pair_after}
use Rattle.op_law.specs.Tables.{AllRise, Tables}
use Rattle.op_rows.specs.inner.Tabulated.{all_rise}
use Rattle.row_changes.specs.Changed.{TableChanges, changed_tables}
use Rattle.row_changes.specs.Touched.{touched}
use Rattle.operator_changes.proofs.DrawnLemmas.{over_passes}
use Rattle.operator_changes.specs.Calls.{MayChange}
use Rattle.operator_changes.specs.Footprint.{IsFootprint, passes}
use Rattle.pair_rows.specs.Shown.{Joining}
use Rattle.pair_rows.specs.Sides.{table_at}
use Rattle.pair_rows.specs.inner.TwoSides.{one_table, table_sound, two_tables}
use Rattle.outer_law.specs.Entries.{IsOuter, entries, new_entries}
use Rattle.outer_law.specs.OuterOn.{outer_forward, outer_on, shown}
use Rattle.outer_law.proofs.ForwardLaws.{forward_half, rise_sound}
use Rattle.pair_parts.specs.Parts.{memory_only, part_of_pair}
use Rattle.cond_parts.proofs.FootLemmas.{part_may, touched_passes, untouched}
use Rattle.cond_parts.proofs.TableLemmas.{table_only}
use Rattle.pair_rows.specs.Halves.{first_of, second_of}
use Rattle.outer_parts.specs.Closed.{ClosedForwardMapsApart, ClosedIsForwardFootprint, IsClosedForward, IsOuterClosed}
use Rattle.cond_parts.specs.Apart.{MapsPairApart}
use Rattle.outer_parts.proofs.RenewedLemmas.{closed_again}
use Rattle.outer_parts.proofs.PartLaws.{closed_splits, half_from}
use Rattle.outer_parts.proofs.EntriesLemmas.{entries_part, entries_rest, new_part, target_part, target_rest}

-- the target and the memory from S and T
abbrev mapped_of : Joining → Rows → Rows → Pairs → Rows → Rows → ℕ → Mapped
mapped_of j s t m ns nt n = record { far = shown j ns nt (entries j s t m ns nt n) ∷ []; memory = entries j s t m ns nt n; next = n + length (new_entries j s t m ns nt) }

module _ (j : Joining) (near : TableChanges) (p : PairState) (n : ℕ) (ids : List ℕ) (may : MayChange (outer_on j) near p n) (c : IsClosedForward j near p n ids) where
  -- what passes, and what is changed
  abbrev P : ℕ → Bool
  P = passes ids n

  abbrev C : ℕ → Bool
  C = has_id (touched near)

  -- the new source
  abbrev whole : Tables
  whole = changed_tables p.source near

  -- old S, old T, old R, the memory, new S and new T
  abbrev s : Rows
  s = table_at 0 p.source

  abbrev t : Rows
  t = table_at 1 p.source

  abbrev r : Rows
  r = table_at 0 p.target

  abbrev m : Pairs
  m = p.memory

  abbrev ns : Rows
  ns = table_at 0 (changed_tables p.source near)

  abbrev nt : Rows
  nt = table_at 1 (changed_tables p.source near)

  is : IsOuter j s t r m
  is = may.may.sound.pair.related

  rise : AllRise p.source
  rise = all_rise may.hs p.source may.may.sound.pair.source_of

  zero : P 0 ≡ true
  zero = let own = c.absent in rw own refl

  in_part_of : (q : ℕ) → C q ≡ true → P q ≡ true
  in_part_of = touched_passes ids n near c.touches

  high : (q : ℕ) → n ≤ q → P q ≡ true
  high q h = over_passes ids n q h

  same_s : (q : ℕ) → C q ≡ false → row_of ns q ≡ row_of s q
  same_s q out = untouched 0 p.source near rise q out

  same_t : (q : ℕ) → C q ≡ false → row_of nt q ≡ row_of t q
  same_t q out = untouched 1 p.source near rise q out

  rise_s : RiseFrom 1 ns
  rise_s = rise_sound n ns (two_tables _ _ may.hs whole may.may.sound.pair.fits.source may.may.near_of).first_rise (table_sound n 0 whole may.may.near_sound)

  rise_t : RiseFrom 1 nt
  rise_t = rise_sound n nt (two_tables _ _ may.hs whole may.may.sound.pair.fits.source may.may.near_of).second_rise (table_sound n 1 whole may.may.near_sound)

  -- the mapping of the part is that of the parts
  part_mapped : outer_forward j (only P whole) (part_of_pair P p) n ≡ mapped_of j (rows_only P s) (rows_only P t) (memory_only P m) (rows_only P ns) (rows_only P nt) n
  part_mapped =
      ap (λ (x : Rows). mapped_of j x (table_at 1 (only P p.source)) (memory_only P m) (table_at 0 (only P whole)) (table_at 1 (only P whole)) n) (table_only P 0 p.source)
      ∙ ap (λ (x : Rows). mapped_of j (rows_only P s) x (memory_only P m) (table_at 0 (only P whole)) (table_at 1 (only P whole)) n) (table_only P 1 p.source)
      ∙ ap (λ (x : Rows). mapped_of j (rows_only P s) (rows_only P t) (memory_only P m) x (table_at 1 (only P whole)) n) (table_only P 0 whole)
      ∙ ap (λ (x : Rows). mapped_of j (rows_only P s) (rows_only P t) (memory_only P m) (rows_only P ns) x n) (table_only P 1 whole)

  -- elsewhere the target is as it was
  far_rest : only (λ q. not (P q)) (outer_forward j whole p n).far ≡ only (λ q. not (P q)) p.target
  far_rest =
      let Q : ℕ → Bool = λ q. not (P q) in
      let one = one_table _ may.ht p.target may.may.sound.pair.fits.target may.may.sound.pair.target_of in
      ap (λ (rows : Rows). rows ∷ []) (target_rest j C P s t r m ns nt is in_part_of same_s same_t c.brings c.first c.second rise_s rise_t n high) ∙ ap (only Q) one.is

  -- closed identifiers split the old pair
  closed : IsOuterClosed P m
  closed = record { absent = zero; rows = c.brings.rows; first = half_from C P first_of m c.first; second = half_from C P second_of m c.second }

  part : IsPair (outer_on j) may.hs may.ht (part_of_pair P p)
  part = (closed_splits j P may.hs may.ht p may.may.sound.pair closed).related may.hs may.ht may.may.sound.pair

  pub forward_foot : IsFootprint (outer_on j) near p n ids
  forward_foot = record {
    rise = c.rise;
    touches = c.touches;
    may = part_may (outer_on j) P may.hs may.ht whole p n may.may part;
    far = ap (λ (x : Mapped). x.far) part_mapped ∙ ap (λ (rows : Rows). rows ∷ []) (target_part j C P s t r m ns nt is in_part_of same_s same_t c.brings c.first c.second rise_s rise_t zero n high);
    memory = ap (λ (x : Mapped). x.memory) part_mapped ∙ entries_part j C P s t r m ns nt is in_part_of same_s same_t c.brings c.first c.second rise_s rise_t zero n high;
    next = ap (λ (x : Mapped). x.next) part_mapped ∙ ap (λ (xs : List (ℕ × ℕ)). n + length xs) (new_part j C P s t r m ns nt is in_part_of same_s same_t c.brings c.first c.second rise_s rise_t zero);
    rest = far_rest;
    memory_rest = entries_rest j C P s t r m ns nt is in_part_of same_s same_t c.brings c.first c.second rise_s rise_t n high;
  }

  -- the new pair is split too
  pub forward_apart : MapsPairApart (outer_on j) near p n P
  forward_apart =
      let after = (forward_half j).kept may.hs may.ht whole p n may.may in
      record {
        splits = closed_splits j P may.hs may.ht p may.may.sound.pair closed;
        apart = record {
          splits = closed_splits j P may.hs may.ht (pair_after (outer_on j) whole p n) after (closed_again j C P s t r m ns nt is in_part_of same_s same_t c.brings c.first c.second rise_s rise_t zero n high);
          at_source = refl;
          at_target = refl;
        };
      }

-- THE FOOTPRINT LAW, FORWARD
pub closed_is_forward : ClosedIsForwardFootprint
closed_is_forward j near p n ids may c = forward_foot j near p n ids may c

-- THE LAW OF WHAT IS KEPT, FORWARD
pub forward_maps_apart : ClosedForwardMapsApart
forward_maps_apart j near p n ids may c = forward_apart j near p n ids may c
