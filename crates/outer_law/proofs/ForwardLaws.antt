-- The laws of mapping from a new source.
use Rattle.std.proofs.Common.{◌≡◌, ℕ, ◌+◌, ◌≤◌, ◌⊎◌, List, [], ◌∷◌, length, Some, None, IsSome, refl, ap, sym, ◌∙◌, subst, arith}
use Rattle.std.proofs.lemmas.Bool.{false≢true}
use mathlib.Core.Logic.{inl, inr}
use Rattle.row_store.specs.Rows.{Rows, RiseFrom, row_of}
use Rattle.id_memory.specs.Pairs.{Pairs}
use Rattle.op_law.specs.Tables.{Tables, Heading, empty_tables}
use Rattle.op_law.specs.Sound.{IsBelow, RowsSound, PairsSound}
use Rattle.op_law.proofs.SoundLaws.{rows_more}
use Rattle.op_law.proofs.SoundTermLaws.{term_more}
use Rattle.op_law.specs.Laws.{HalfLaws}
use Rattle.op_rows.specs.Cells.{with_row, CellSound}
use Rattle.row_parts.specs.RowCells.{Cell}
use Rattle.pair_rows.specs.Sides.{table_at}
use Rattle.pair_rows.specs.Shown.{Joining, join_cells, row_at}
use Rattle.pair_rows.specs.inner.JoinedRows.{joined_sound}
use Rattle.pair_rows.specs.inner.ShownLaws.{joined_rise, joined_wide, has_joined, joined_has}
use Rattle.pair_rows.specs.inner.TwoSides.{two_tables, one_table, one_of, table_sound, row_in, empty_table}
use Rattle.outer_law.specs.Entries.{with_absent, IsOuter, entries, new_entries}
use Rattle.outer_law.specs.OuterOn.{shown, outer_on}
use Rattle.outer_law.proofs.AbsentLaws.{absent_sound}
use Rattle.outer_law.proofs.EntryLaws.{is, halves, entry_there, entry_below, entries_one, entries_none, entries_first, entries_second}
use Rattle.outer_law.proofs.RenewedLaws.{renewed_rises, renewed_there, renewed_sound, renewed_id}
use Rattle.outer_law.proofs.StillLaws.{same_entries, none_fresh}

-- sound rows from 0 on are from 1 on
pub rise_sound : (n : ℕ) (rows : Rows) → RiseFrom 0 rows → RowsSound n rows → RiseFrom 1 rows
rise_sound n [] rise sound = tt
rise_sound n (r ∷ rs) rise sound = (sound.0.0.0, rise.1)

-- joined rows of sound ones are sound
cells_sound : (j : Joining) (n : ℕ) (c d : Cell) → CellSound n c → CellSound n d → CellSound n (join_cells j c d)
cells_sound j n (Some a) (Some b) h k = joined_sound n j.first j.second a b h k
cells_sound j n (Some a) None h k = tt
cells_sound j n None d h k = tt

with_sound : (n p : ℕ) (c : Cell) (rows : Rows) → IsBelow n p → CellSound n c → RowsSound n rows → RowsSound n (with_row p c rows)
with_sound n p (Some row) rows below cell sound = ((below, cell), sound)
with_sound n p None rows below cell sound = sound

-- so is what is shown
pub shown_sound : (j : Joining) (n : ℕ) (s t : Rows) (m : Pairs) → RowsSound n s → RowsSound n t → PairsSound n m → RowsSound n (shown j s t m)
shown_sound j n s t [] one other sound = tt
shown_sound j n s t (e ∷ es) one other sound =
    with_sound n e.0 (row_at j (with_absent j.first s) (with_absent j.second t) e.1 e.2) (shown j s t es) sound.0.0
    (cells_sound j n (row_of (with_absent j.first s) e.1) (row_of (with_absent j.second t) e.2) (absent_sound j.first n s e.1 one) (absent_sound j.second n t e.2 other))
    (shown_sound j n s t es one other sound.1)

module _ (j : Joining) where
  -- the new rows, what is shown and the new memory are related
  pub forward_outer : (s t r : Rows) (m : Pairs) (ns nt : Rows) (n : ℕ) → IsOuter j s t r m → PairsSound n m → RiseFrom 1 ns → RiseFrom 1 nt → IsOuter j ns nt (shown j ns nt (entries j s t m ns nt n)) (entries j s t m ns nt n)
  forward_outer s t r m ns nt n old sound rise other_rise = record {
    joined = record {
      rises = renewed_rises (is j s t m ns nt) m (halves j s t m ns nt) n old.joined.rises sound;
      one = entries_one j s t m ns nt n old.joined.one rise other_rise;
      there = renewed_there (is j s t m ns nt) m (halves j s t m ns nt) (with_absent j.first ns) (with_absent j.second nt) n (entry_there j s t m ns nt);
      rows = refl;
    };
    none = entries_none j s t m ns nt n;
    first = entries_first j s t m ns nt n old.joined.one rise other_rise;
    second = entries_second j s t m ns nt n old.joined.one rise other_rise;
  }

  -- the new memory is below the next identifier
  pub entries_sound : (s t : Rows) (m : Pairs) (ns nt : Rows) (n : ℕ) → PairsSound n m → RowsSound n ns → RowsSound n nt → PairsSound (n + length (new_entries j s t m ns nt)) (entries j s t m ns nt n)
  entries_sound s t m ns nt n sound one other = renewed_sound (is j s t m ns nt) m (halves j s t m ns nt) n sound (λ a b h. entry_below j s t m ns nt n a b one other h)

  -- a row that the old target hasn't was drawn
  pub entries_drawn : (s t r : Rows) (m : Pairs) (ns nt : Rows) (n id : ℕ) → IsOuter j s t r m → IsSome (row_of (shown j ns nt (entries j s t m ns nt n)) id) → IsSome (row_of r id) ⊎ (n ≤ id)
  entries_drawn s t r m ns nt n id old some =
      let there = renewed_there (is j s t m ns nt) m (halves j s t m ns nt) (with_absent j.first ns) (with_absent j.second nt) n (entry_there j s t m ns nt) in
      let listed = has_joined j (with_absent j.first ns) (with_absent j.second nt) (entries j s t m ns nt n) id there some in
      elim (renewed_id (is j s t m ns nt) m (halves j s t m ns nt) n id listed) [
        | inl was ↦ inl (subst (λ (rows : Rows). IsSome (row_of rows id)) (sym old.joined.rows) (joined_has j (with_absent j.first s) (with_absent j.second t) m id old.joined.there was))
        | inr new ↦ inr new
      ]

  -- empty tables
  one_of_none : (a b : ℕ) → 0 ≤ 1
  one_of_none a b = omega arith

  pub empty_outer : (hs ht : List Heading) → IsOuter j (table_at 0 (empty_tables hs)) (table_at 1 (empty_tables hs)) (table_at 0 (empty_tables ht)) []
  empty_outer hs ht =
      let none : IsOuter j [] [] [] [] = record {
        joined = record { rises = tt; one = λ a b. omega arith; there = tt; rows = refl };
        none = refl;
        first = record { rise = tt; each = λ id some. absurd (false≢true some); alone = λ id some. omega arith };
        second = record { rise = tt; each = λ id some. absurd (false≢true some); alone = λ id some. omega arith };
      } in
      subst (λ (rows : Rows). IsOuter j rows (table_at 1 (empty_tables hs)) (table_at 0 (empty_tables ht)) []) (sym (empty_table 0 hs))
      (subst (λ (rows : Rows). IsOuter j [] rows (table_at 0 (empty_tables ht)) []) (sym (empty_table 1 hs))
      (subst (λ (rows : Rows). IsOuter j [] [] rows []) (sym (empty_table 0 ht)) none))

  -- the laws
  pub forward_half : HalfLaws (outer_on j)
  forward_half = record {
    kept = λ hs ht near old n may.
        let pair = may.sound.pair in
        let new = two_tables _ _ hs near pair.fits.source may.near_of in
        let s = table_at 0 old.source in
        let t = table_at 1 old.source in
        let ns = table_at 0 near in
        let nt = table_at 1 near in
        let kept = forward_outer s t (table_at 0 old.target) old.memory ns nt n pair.related may.sound.memory
        (rise_sound n ns new.first_rise (table_sound n 0 near may.near_sound)) (rise_sound n nt new.second_rise (table_sound n 1 near may.near_sound)) in
        let m = entries j s t old.memory ns nt n in
        record {
          fits = pair.fits;
          related = kept;
          source_of = may.near_of;
          target_of = one_of _ ht (shown j ns nt m) pair.fits.target
              (joined_rise j 0 (with_absent j.first ns) (with_absent j.second nt) m kept.joined.rises) (joined_wide j (with_absent j.first ns) (with_absent j.second nt) m);
        };
    still = λ hs ht old n may.
        let pair = may.sound.pair in
        let is = pair.related in
        let s = table_at 0 old.source in
        let t = table_at 1 old.source in
        let r = table_at 0 old.target in
        let m = old.memory in
        let one = one_table _ ht old.target pair.fits.target pair.target_of in
        let target : shown j s t m ∷ [] ≡ old.target = ap (λ (rows : Rows). rows ∷ []) (sym is.joined.rows) ∙ one.is in
        let same : n + 0 ≡ n = omega arith in
        ap (λ (es : Pairs). record { far = shown j s t es ∷ []; memory = es; next = n + length (new_entries j s t m s t) }) (same_entries j s t r m is n)
        ∙ ap (λ (xs : List (ℕ × ℕ)). record { far = shown j s t m ∷ []; memory = m; next = n + length xs }) (none_fresh j s t r m is)
        ∙ ap (λ (next : ℕ). record { far = shown j s t m ∷ []; memory = m; next = next }) same
        ∙ ap (λ (far : Tables). record { far = far; memory = m; next = n }) target;
    below = λ hs ht near old n may.
        let pair = may.sound.pair in
        let s = table_at 0 old.source in
        let t = table_at 1 old.source in
        let ns = table_at 0 near in
        let nt = table_at 1 near in
        let first = table_sound n 0 near may.near_sound in
        let second = table_sound n 1 near may.near_sound in
        let next = n + length (new_entries j s t old.memory ns nt) in
        let sound = entries_sound s t old.memory ns nt n may.sound.memory first second in
        record {
          rises = omega arith;
          far = (shown_sound j next ns nt (entries j s t old.memory ns nt n) (rows_more n next (omega arith) ns first) (rows_more n next (omega arith) nt second) sound, tt);
          memory = sound;
          drawn = λ id has. elim has [
            | inl some ↦ elim (entries_drawn s t (table_at 0 old.target) old.memory ns nt n id pair.related some) [
              | inl here ↦ inr (inl (inr (row_in 0 old.target id here)))
              | inr new ↦ inr (inr new)
            ]
            | inr none ↦ absurd none
          ];
        };
    recovered = λ hs ht p reads pair.
        let one = one_table _ ht p.target pair.fits.target pair.target_of in
        ap (λ (rows : Rows). rows ∷ []) (sym pair.related.joined.rows) ∙ one.is;
    readable = λ hs ht fits. inr refl;
    empty = λ hs ht fits. empty_outer hs ht;
    closed_more = λ n k h closed. term_more n k h j.condition closed;
    aux_rises = λ hs ht p pair. tt;
    aux_many = λ hs ht p q one two. refl;
    local = λ local. absurd (false≢true local);
  }
