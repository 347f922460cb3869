-- The laws of JOIN ON a condition, both ways.
use Rattle.std.proofs.Common.{◌≡◌, ℕ, ◌+◌, ◌≤◌, ◌⊎◌, List, [], ◌∷◌, length, refl, ap, sym, ◌∙◌, count_by, not, ◌||◌, arith}
use Rattle.std.proofs.lemmas.Bool.{false≢true}
use mathlib.Core.Logic.{inl, inr}
use Rattle.row_store.specs.Rows.{Rows}
use Rattle.id_memory.specs.Pairs.{Pairs, has_pair}
use Rattle.op_law.specs.Tables.{Tables, Heading, AllRise, empty_tables}
use Rattle.op_law.specs.Sound.{RowsSound, PairsSound, HasRow}
use Rattle.op_law.proofs.SoundLaws.{rows_more, below_sound}
use Rattle.op_law.proofs.SoundTermLaws.{term_more}
use Rattle.op_law.specs.Meaning.{PairState, flip, exchanged}
use Rattle.op_law.specs.Premises.{IsPair, MayMap}
use Rattle.op_law.specs.Laws.{HalfLaws, Laws, InPair}
use Rattle.row_parts.specs.Places.{ArePartition}
use Rattle.pair_rows.specs.inner.Lookups.{filter_rise, filter_wide, filter_sound, filter_has}
use Rattle.pair_rows.specs.Shown.{Joining, IsJoined, joined, shown_pairs, new_pairs}
use Rattle.pair_rows.specs.inner.ShownLaws.{forward_joined, joined_rise, joined_wide, target_sound, pairs_sound, shown_drawn, same_pairs, none_new}
use Rattle.op_cond_join.specs.Assigned.{Assigning, beginning, assigned, ending}
use Rattle.pair_rows.specs.Stays.{staying, stands}
use Rattle.op_cond_join.specs.inner.AssignedLaws.{Ready, Grown, start_ready, assigned_one, end_ready, end_grown}
use Rattle.pair_rows.specs.inner.FoundPairs.{AreFound, found_there, found_joined, found_rises, found_sound, found_stays, all_stand, parts_found, PartsFound}
use Rattle.op_cond_join.specs.inner.FoundLaws.{end_found, end_sound, still_assigned, all_stay}
use Rattle.pair_rows.specs.Kept.{alone, side_read}
use Rattle.pair_rows.specs.inner.KeptLaws.{ArePaired, side_is_read}
use Rattle.pair_rows.specs.Sides.{table_at, JoinFits}
use Rattle.op_cond_join.specs.JoinOn.{join_backward, join_on}
use Rattle.pair_rows.specs.Halves.{first_of, second_of}
use Rattle.pair_rows.specs.inner.TwoSides.{TwoTables, OneTable, two_tables, one_table, two_of, one_of, table_sound, row_in, empty_table}

-- no pair stands twice in no entries
one_of_none : (a b : ℕ) → count_by (has_pair a b) [] ≤ 1
one_of_none a b = omega arith

module _ (j : Joining) where
  -- empty tables
  empty_joined : (hs ht : List Heading) → IsJoined j (table_at 0 (empty_tables hs)) (table_at 1 (empty_tables hs)) (table_at 0 (empty_tables ht)) []
  empty_joined hs ht = record { rises = tt; one = one_of_none; there = tt; rows = empty_table 0 ht }

  -- from a new source
  pub forward_half : HalfLaws (join_on j)
  forward_half = record {
    kept = λ hs ht near old n may.
        let pair = may.sound.pair in
        let is = pair.related in
        let new = two_tables _ _ hs near pair.fits.source may.near_of in
        let s = table_at 0 old.source in
        let t = table_at 1 old.source in
        let ns = table_at 0 near in
        let nt = table_at 1 near in
        let pairs = shown_pairs j s t old.memory ns nt n in
        let kept = forward_joined j s t old.memory ns nt n is.rises is.one may.sound.memory new.first_rise new.second_rise in
        record {
          fits = pair.fits;
          related = kept;
          source_of = may.near_of;
          target_of = one_of _ ht (joined j ns nt pairs) pair.fits.target (joined_rise j 0 ns nt pairs kept.rises) (joined_wide j ns nt pairs);
        };
    still = λ hs ht old n may.
        let pair = may.sound.pair in
        let is = pair.related in
        let s = table_at 0 old.source in
        let t = table_at 1 old.source in
        let m = old.memory in
        let one = one_table _ ht old.target pair.fits.target pair.target_of in
        let target : joined j s t m ∷ [] ≡ old.target = ap (λ (rows : Rows). rows ∷ []) (sym is.rows) ∙ one.is in
        let same : n + 0 ≡ n = omega arith in
        ap (λ (pairs : Pairs). record { far = joined j s t pairs ∷ []; memory = pairs; next = n + length (new_pairs j s t m s t) }) (same_pairs j s t m n is.there)
        ∙ ap (λ (xs : List (ℕ × ℕ)). record { far = joined j s t m ∷ []; memory = m; next = n + length xs }) (none_new j s t m)
        ∙ ap (λ (next : ℕ). record { far = joined j s t m ∷ []; memory = m; next = next }) same
        ∙ ap (λ (far : Tables). record { far = far; memory = m; next = n }) target;
    below = λ hs ht near old n may.
        let pair = may.sound.pair in
        let is = pair.related in
        let s = table_at 0 old.source in
        let t = table_at 1 old.source in
        let ns = table_at 0 near in
        let nt = table_at 1 near in
        let first = table_sound n 0 near may.near_sound in
        let second = table_sound n 1 near may.near_sound in
        record {
          rises = omega arith;
          far = (target_sound j s t old.memory ns nt n may.sound.memory first second, tt);
          memory = pairs_sound j s t old.memory ns nt n may.sound.memory first second;
          drawn = λ id has. elim has [
            | inl some ↦ elim (shown_drawn j s t (table_at 0 old.target) old.memory ns nt n id is some) [
              | inl here ↦ inr (inl (inr (row_in 0 old.target id here)))
              | inr new ↦ inr (inr new)
            ]
            | inr none ↦ absurd none
          ];
        };
    recovered = λ hs ht p reads pair.
        let one = one_table _ ht p.target pair.fits.target pair.target_of in
        ap (λ (rows : Rows). rows ∷ []) (sym pair.related.rows) ∙ one.is;
    readable = λ hs ht fits. inr refl;
    empty = λ hs ht fits. empty_joined hs ht;
    closed_more = λ n k h closed. term_more n k h j.condition closed;
    aux_rises = λ hs ht p pair. tt;
    aux_many = λ hs ht p q one two. refl;
    local = λ local. absurd (false≢true local);
  }

  -- from a new target: the old sides, and what is assigned
  module _ (hs ht : List Heading) (near : Tables) (old : PairState) (n : ℕ) (may : MayMap (flip (join_on j)) ht hs near old n) where
    abbrev s : Rows
    s = table_at 0 old.target

    abbrev t : Rows
    t = table_at 1 old.target

    abbrev r : Rows
    r = table_at 0 old.source

    abbrev m : Pairs
    m = old.memory

    abbrev new : Rows
    new = table_at 0 near

    fits : JoinFits j hs ht
    fits = may.sound.pair.fits

    parts : ArePartition j.first j.second
    parts = fits.places

    is : IsJoined j s t r m
    is = may.sound.pair.related

    both : TwoTables (length j.first) (length j.second) old.target
    both = two_tables (length j.first) (length j.second) hs old.target fits.source may.sound.pair.target_of

    near_one : OneTable (length j.first + length j.second) near
    near_one = one_table (length j.first + length j.second) ht near fits.target may.near_of

    abbrev start : Assigning
    start = beginning s t r m new n

    abbrev end : Assigning
    end = ending j r m start new

    abbrev pairs : Pairs
    pairs = assigned j r m start new

    abbrev first : Rows
    first = staying first_of m pairs end.first

    abbrev second : Rows
    second = staying second_of m pairs end.second

    s_sound : RowsSound n s
    s_sound = table_sound n 0 old.target may.sound.target

    t_sound : RowsSound n t
    t_sound = table_sound n 1 old.target may.sound.target

    ready : Ready j parts s t r m is both.first_wide both.second_wide n start
    ready = start_ready j parts s t r m is both.first_wide both.second_wide n new both.first_rise both.second_rise (below_sound n s s_sound) (below_sound n t t_sound) may.sound.memory

    at_end : Ready j parts s t r m is both.first_wide both.second_wide n end
    at_end = end_ready j parts s t r m is both.first_wide both.second_wide n start new ready

    grown : Grown j parts s t r m is both.first_wide both.second_wide n start end
    grown = end_grown j parts s t r m is both.first_wide both.second_wide n start new ready

    found_at_end : AreFound j end.first end.second pairs new
    found_at_end = end_found j parts s t r m is both.first_wide both.second_wide n start new ready

    found : AreFound j first second pairs new
    found = found_stays j m pairs end.first end.second pairs new (all_stand first_of pairs) (all_stand second_of pairs) found_at_end

    pub backward_kept : IsPair (flip (join_on j)) ht hs (record { source = near; target = first ∷ second ∷ []; memory = pairs })
    backward_kept = record {
      fits = fits;
      related = record {
        rises = found_rises j end.first end.second 0 pairs new near_one.rise found_at_end;
        one = assigned_one j parts s t r m is both.first_wide both.second_wide n new near_one.rise ready;
        there = found_there j first second pairs new found;
        rows = found_joined j parts first second pairs new near_one.wide found;
      };
      source_of = may.near_of;
      target_of = two_of (length j.first) (length j.second) hs first second fits.source
          (filter_rise (λ id. not (stands first_of m id) || stands first_of pairs id) 0 end.first at_end.first_rise)
          (filter_wide (λ id. not (stands first_of m id) || stands first_of pairs id) (length j.first) end.first (grown.first_wide both.first_wide))
          (filter_rise (λ id. not (stands second_of m id) || stands second_of pairs id) 0 end.second at_end.second_rise)
          (filter_wide (λ id. not (stands second_of m id) || stands second_of pairs id) (length j.second) end.second (grown.second_wide both.second_wide));
    }

    new_sound : RowsSound n new
    new_sound = table_sound n 0 near may.near_sound

    sound_at_end : RowsSound end.next end.first × RowsSound end.next end.second
    sound_at_end = end_sound j parts s t r m is both.first_wide both.second_wide n start new ready new_sound s_sound t_sound

    pub backward_sound : RowsSound end.next first × RowsSound end.next second
    backward_sound = (
      filter_sound (λ id. not (stands first_of m id) || stands first_of pairs id) end.next end.first sound_at_end.0,
      filter_sound (λ id. not (stands second_of m id) || stands second_of pairs id) end.next end.second sound_at_end.1,
    )

    pub backward_pairs_sound : PairsSound end.next pairs
    backward_pairs_sound = found_sound j end.first end.second end.next pairs new sound_at_end.0 sound_at_end.1 (rows_more n end.next at_end.next new new_sound) found_at_end

    pub backward_drawn : (id : ℕ) → HasRow id (first ∷ second ∷ []) → InPair id old ⊎ (n ≤ id)
    backward_drawn id (inl some) =
        elim (grown.first_drawn id (filter_has (λ id. not (stands first_of m id) || stands first_of pairs id) end.first id some)) [
          | inl here ↦ inl (inr (row_in 0 old.target id here))
          | inr drawn ↦ inr drawn
        ]
    backward_drawn id (inr (inl some)) =
        elim (grown.second_drawn id (filter_has (λ id. not (stands second_of m id) || stands second_of pairs id) end.second id some)) [
          | inl here ↦ inl (inr (row_in 1 old.target id here))
          | inr drawn ↦ inr drawn
        ]
    backward_drawn id (inr (inr none)) = absurd none

    pub backward_next : n ≤ end.next
    backward_next = at_end.next

  -- an old target gives the old source
  pub backward_still : (hs ht : List Heading) (old : PairState) (n : ℕ) → MayMap (flip (join_on j)) ht hs old.source old n → join_backward j old.source (exchanged old) n ≡ record { far = old.target; memory = old.memory; next = n }
  backward_still hs ht old n may =
      let fits : JoinFits j hs ht = may.sound.pair.fits in
      let s = table_at 0 old.target in
      let t = table_at 1 old.target in
      let r = table_at 0 old.source in
      let m = old.memory in
      let is : IsJoined j s t r m = may.sound.pair.related in
      let parts = fits.places in
      let two = two_tables (length j.first) (length j.second) hs old.target fits.source may.sound.pair.target_of in
      let start = beginning s t r m r n in
      let same = still_assigned j parts s t r m is two.first_wide two.second_wide start in
      ap (λ (pairs : Pairs). record { far = staying first_of m pairs (ending j r m start r).first ∷ staying second_of m pairs (ending j r m start r).second ∷ []; memory = pairs; next = (ending j r m start r).next }) same.0
      ∙ ap (λ (end : Assigning). record { far = staying first_of m m end.first ∷ staying second_of m m end.second ∷ []; memory = m; next = end.next }) same.1
      ∙ ap (λ (rows : Rows). record { far = rows ∷ staying second_of m m t ∷ []; memory = m; next = n }) (all_stay first_of m s)
      ∙ ap (λ (rows : Rows). record { far = s ∷ rows ∷ []; memory = m; next = n }) (all_stay second_of m t)
      ∙ ap (λ (far : Tables). record { far = far; memory = m; next = n }) two.is

  -- the first rows of all pairs
  first_paired : (s t r : Rows) (m es : Pairs) → PartsFound j s t r es → ArePaired first_of j.first s r m es
  first_paired s t r m [] all = tt
  first_paired s t r m (e ∷ es) all = (all.0.0, first_paired s t r m es all.1)

  -- the second rows of all pairs
  second_paired : (s t r : Rows) (m es : Pairs) → PartsFound j s t r es → ArePaired second_of j.second t r m es
  second_paired s t r m [] all = tt
  second_paired s t r m (e ∷ es) all = (all.0.1, second_paired s t r m es all.1)

  -- the source is read back
  pub backward_recovered : (hs ht : List Heading) (p : PairState) → IsPair (flip (join_on j)) ht hs p → (join_on j).read_source p.source ((join_on j).aux_at_target (exchanged p)) p.memory ≡ p.target
  backward_recovered hs ht p pair =
      let fits : JoinFits j hs ht = pair.fits in
      let s = table_at 0 p.target in
      let t = table_at 1 p.target in
      let r = table_at 0 p.source in
      let m = p.memory in
      let is : IsJoined j s t r m = pair.related in
      let parts = fits.places in
      let two = two_tables (length j.first) (length j.second) hs p.target fits.source pair.target_of in
      let found = parts_found j parts s t r m is two.first_wide two.second_wide in
      let first = side_is_read first_of j.first s r m two.first_rise (first_paired s t r m m found) in
      let second = side_is_read second_of j.second t r m two.second_rise (second_paired s t r m m found) in
      ap (λ (rows : Rows). rows ∷ side_read second_of j.second r m (alone second_of m t) ∷ []) first
      ∙ ap (λ (rows : Rows). s ∷ rows ∷ []) second
      ∙ two.is

  -- what is kept beside the target rises
  backward_aux_rises : (ht hs : List Heading) (p : PairState) → IsPair (flip (join_on j)) ht hs p → AllRise ((flip (join_on j)).aux_at_source p)
  backward_aux_rises ht hs p pair =
      let fits : JoinFits j hs ht = pair.fits in
      let two = two_tables (length j.first) (length j.second) hs p.target fits.source pair.target_of in (
        filter_rise (λ id. not (stands first_of p.memory id)) 0 (table_at 0 p.target) two.first_rise,
        (filter_rise (λ id. not (stands second_of p.memory id)) 0 (table_at 1 p.target) two.second_rise, tt),
      )

  -- from a new target
  pub backward_half : HalfLaws (flip (join_on j))
  backward_half = record {
    kept = λ ht hs near old n may. backward_kept hs ht near old n may;
    still = λ ht hs old n may. backward_still hs ht old n may;
    below = λ ht hs near old n may. record {
      rises = backward_next hs ht near old n may;
      far = let both = backward_sound hs ht near old n may in (both.0, (both.1, tt));
      memory = backward_pairs_sound hs ht near old n may;
      drawn = λ id has. inr (backward_drawn hs ht near old n may id has);
    };
    recovered = λ ht hs p reads pair. backward_recovered hs ht p pair;
    readable = λ ht hs fits. inr refl;
    empty = λ ht hs fits. empty_joined hs ht;
    closed_more = λ n k h closed. term_more n k h j.condition closed;
    aux_rises = backward_aux_rises;
    aux_many = λ hs ht p q one two. refl;
    local = λ local. absurd (false≢true local);
  }

-- the laws both ways
pub join_on_laws : (j : Joining) → Laws (join_on j)
join_on_laws j = (forward_half j, backward_half j)
