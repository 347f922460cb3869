-- JOIN ON a condition, from S and T: closed identifiers are a footprint.
use Rattle.std.proofs.Common.{◌≡◌, ℕ, ◌+◌, List, [], ◌∷◌, Bool, true, false, not, ◌≤◌, length, refl, ap, ◌∙◌}
use Rattle.row_store.specs.Rows.{Rows, row_of}
use Rattle.id_memory.specs.Pairs.{Pairs}
use Rattle.op_law.specs.Identifiers.{has_id}
use Rattle.op_law.specs.Local.{only, rows_only}
use Rattle.op_law.specs.Meaning.{Mapped, PairState}
use Rattle.op_law.specs.Tables.{AllRise, Tables}
use Rattle.op_rows.specs.inner.Tabulated.{all_rise}
use Rattle.row_changes.specs.Changed.{TableChanges, changed_tables}
use Rattle.row_changes.specs.Touched.{touched}
use Rattle.operator_changes.proofs.DrawnLemmas.{over_passes}
use Rattle.operator_changes.specs.Calls.{MayChange}
use Rattle.operator_changes.specs.Footprint.{IsFootprint, passes}
use Rattle.pair_rows.specs.Shown.{IsJoined, Joining, is_shown, numbered, joined, new_pairs, shown_pairs}
use Rattle.pair_rows.specs.Sides.{table_at}
use Rattle.pair_rows.specs.inner.TwoSides.{one_table}
use Rattle.op_cond_join.specs.JoinOn.{join_forward, join_on}
use Rattle.pair_parts.specs.Apart.{SameElsewhere}
use Rattle.pair_parts.specs.Parts.{memory_only, part_of_pair}
use Rattle.cond_parts.specs.Apart.{BringsStanding, ClosedForwardMapsApart, MapsPairApart}
use Rattle.cond_parts.specs.Closed.{BringsEntry, IsClosedIn}
use Rattle.op_law.specs.Premises.{pair_after}
use Rattle.op_cond_join.specs.inner.JoinOnLaws.{forward_half}
use Rattle.pair_rows.specs.Halves.{first_of, second_of}
use Rattle.cond_parts.proofs.MemoryLemmas.{rows_of_each}
use Rattle.cond_parts.proofs.StandingLemmas.{new_entry, old_entry}
use Rattle.cond_parts.specs.Forward.{ClosedIsForwardFootprint, IsClosedForward}
use Rattle.cond_parts.proofs.FootLemmas.{not_touched, part_may, side_untouched, touched_passes, untouched}
use Rattle.cond_parts.proofs.PartLaws.{closed_keeps_apart, closed_splits, part_pair}
use Rattle.cond_parts.proofs.ShownLemmas.{kept_still, new_part, shown_brings, shown_part, shown_rest, target_part, target_rest}
use Rattle.cond_parts.proofs.TableLemmas.{table_only}

-- the target and the memory from S and T
abbrev mapped_of : Joining → Rows → Rows → Pairs → Rows → Rows → ℕ → Mapped
mapped_of j s t m ns nt n = record { far = joined j ns nt (shown_pairs j s t m ns nt n) ∷ []; memory = shown_pairs j s t m ns nt n; next = n + length (new_pairs j s t m ns nt) }

module _ (j : Joining) (near : TableChanges) (p : PairState) (n : ℕ) (ids : List ℕ) (may : MayChange (join_on j) near p n) (c : IsClosedForward j near p n ids) where
  -- what passes, and what is changed
  abbrev P : ℕ → Bool
  P = passes ids n

  abbrev C : ℕ → Bool
  C = has_id (touched near)

  -- the new source
  abbrev whole : Tables
  whole = changed_tables p.source near

  -- old S, old T, old R, the memory, new S and new T
  abbrev s : Rows
  s = table_at 0 p.source

  abbrev t : Rows
  t = table_at 1 p.source

  abbrev r : Rows
  r = table_at 0 p.target

  abbrev m : Pairs
  m = p.memory

  abbrev ns : Rows
  ns = table_at 0 (changed_tables p.source near)

  abbrev nt : Rows
  nt = table_at 1 (changed_tables p.source near)

  is : IsJoined j s t r m
  is = may.may.sound.pair.related

  rise : AllRise p.source
  rise = all_rise may.hs p.source may.may.sound.pair.source_of

  in_part_of : (q : ℕ) → C q ≡ true → P q ≡ true
  in_part_of = touched_passes ids n near c.touches

  high : (q : ℕ) → n ≤ q → P q ≡ true
  high q h = over_passes ids n q h

  same_s : (q : ℕ) → C q ≡ false → row_of ns q ≡ row_of s q
  same_s q out = untouched 0 p.source near rise q out

  same_t : (q : ℕ) → C q ≡ false → row_of nt q ≡ row_of t q
  same_t q out = untouched 1 p.source near rise q out

  -- the mapping of the part is that of the parts
  part_mapped : join_forward j (only P whole) (part_of_pair P p) n ≡ mapped_of j (rows_only P s) (rows_only P t) (memory_only P m) (rows_only P ns) (rows_only P nt) n
  part_mapped =
      let a = table_only P 0 p.source in
      let b = table_only P 1 p.source in
      let x = table_only P 0 whole in
      let y = table_only P 1 whole in
      rw (a, b, x, y) (refl {a = mapped_of j (rows_only P s) (rows_only P t) (memory_only P m) (rows_only P ns) (rows_only P nt) n})

  -- elsewhere the target is as it was
  far_rest : only (λ q. not (P q)) (join_forward j whole p n).far ≡ only (λ q. not (P q)) p.target
  far_rest =
      let Q : ℕ → Bool = λ q. not (P q) in
      let one = one_table _ may.ht p.target may.may.sound.pair.fits.target may.may.sound.pair.target_of in
      ap (λ (rows : Rows). rows ∷ []) (target_rest j C P s t r m ns nt n is in_part_of high same_s same_t c.brings) ∙ ap (only Q) one.is

  pub forward_foot : IsFootprint (join_on j) near p n ids
  forward_foot = record {
    rise = c.rise;
    touches = c.touches;
    may = part_may (join_on j) P may.hs may.ht whole p n may.may (part_pair j P may.hs may.ht p may.may.sound.pair c.brings.rows);
    far = ap (λ (x : Mapped). x.far) part_mapped ∙ ap (λ (rows : Rows). rows ∷ []) (target_part j C P s t r m ns nt n is in_part_of high same_s same_t c.brings);
    memory = ap (λ (x : Mapped). x.memory) part_mapped ∙ shown_part j C P s t r m ns nt n is in_part_of high same_s same_t c.brings;
    next = ap (λ (x : Mapped). x.next) part_mapped ∙ ap (λ (xs : List (ℕ × ℕ)). n + length xs) (new_part j C P s t r m ns nt n is in_part_of high same_s same_t c.brings);
    rest = far_rest;
    memory_rest = shown_rest j C P s t r m ns nt n is in_part_of high same_s same_t c.brings;
  }

  -- elsewhere the new pair is as the old one
  same : SameElsewhere P p (pair_after (join_on j) (changed_tables p.source near) p n)
  same = record {
    source = side_untouched p.source near rise (λ q. not (P q)) (not_touched C P in_part_of);
    target = far_rest;
    memory = shown_rest j C P s t r m ns nt n is in_part_of high same_s same_t c.brings;
  }

  module _ (first : BringsStanding C P first_of m) (second : BringsStanding C P second_of m) where
    -- an entry of a row that passes
    entry : (pick : ℕ × ℕ × ℕ → ℕ) → BringsStanding C P pick m → BringsEntry P pick (shown_pairs j s t m ns nt n)
    entry pick standing =
        new_entry C P pick (λ e. is_shown j s t m ns nt e.1 e.2) m (numbered n (new_pairs j s t m ns nt)) standing (kept_still j C P s t r m ns nt n is in_part_of high same_s same_t c.brings)
        (shown_rest j C P s t r m ns nt n is in_part_of high same_s same_t c.brings)

    -- they are closed in the new memory
    closed_after : IsClosedIn P (shown_pairs j s t m ns nt n)
    closed_after = record {
      rows = rows_of_each P (shown_pairs j s t m ns nt n) (shown_brings j C P s t r m ns nt n is in_part_of high same_s same_t c.brings);
      first = entry first_of first;
      second = entry second_of second;
    }

    pub forward_apart : MapsPairApart (join_on j) near p n P
    forward_apart = record {
      splits = closed_splits j P may.hs may.ht p may.may.sound.pair (record { rows = c.brings.rows; first = old_entry C P first_of m first; second = old_entry C P second_of m second });
      apart = closed_keeps_apart j P may.hs may.ht p (pair_after (join_on j) whole p n) may.may.sound.pair ((forward_half j).kept may.hs may.ht whole p n may.may) same c.brings.rows closed_after;
    }

-- THE FOOTPRINT LAW, FORWARD
pub closed_is_forward : ClosedIsForwardFootprint
closed_is_forward j near p n ids may c = forward_foot j near p n ids may c

-- THE LAW OF WHAT IS KEPT, FORWARD
pub forward_maps_apart : ClosedForwardMapsApart
forward_maps_apart j near p n ids may c first second = forward_apart j near p n ids may c first second
