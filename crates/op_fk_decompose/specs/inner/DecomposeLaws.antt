-- DECOMPOSE ON FK, forward: kept, still, below.
use Rattle.std.proofs.Common.{◌≡◌, ℕ, ◌+◌, ◌≤◌, ◌⊎◌, List, [], ◌∷◌, Bool, ◌||◌, length, Option, Some, None, refl, ap, sym, ◌∙◌, arith}
use mathlib.Core.Logic.{inl, inr}
use Rattle.par_base.specs.declared.value.Value.{Value}
use Rattle.row_store.specs.Rows.{Rows, RiseFrom, row_of}
use Rattle.id_memory.specs.Pairs.{Pairs}
use Rattle.op_law.specs.Tables.{Tables, Heading, RowsWide, AreTablesOf}
use Rattle.op_law.specs.Sound.{RowsSound, TablesSound, HasRow}
use Rattle.op_law.specs.Identifiers.{ids_in, ids_over}
use Rattle.op_law.specs.Meaning.{Meaning, PairState}
use Rattle.op_law.specs.Premises.{IsPair, MayMap, pair_after}
use Rattle.op_law.specs.Laws.{InPair, IsBelowNext}
use Rattle.op_rows.specs.Cells.{CellWide, CellSound}
use Rattle.op_rows.specs.inner.CellLemmas.{below_ids}
use Rattle.row_parts.specs.RowCells.{Cell, is_there, or_else, kept_if, map_cell, value_or, by_option}
use Rattle.op_tables.specs.SideTables.{first_table, second_table}
use Rattle.foreign_keys.specs.KeyParts.{FkParts, FkWell}
use Rattle.foreign_keys.specs.References.{referred}
use Rattle.foreign_keys.specs.DrawnIds.{numbered}
use Rattle.op_tables.specs.Lookups.{one_rise, three_rise, wide_table, sound_table, One, one_table, Two, two_tables, two_wide, sound0, sound1, in_first, in_second}
use Rattle.op_law.proofs.SoundLaws.{rows_more, sound_at, wide_at}
use Rattle.foreign_keys.specs.inner.DrawnLemmas.{numbered_from, distinct, numbered_rise, drawn_wide, drawn_sound}
use Rattle.op_fk_decompose.specs.Decompose.{alone, how, needs, values_drawn, ref, near_row, new_first, new_second, s_after, t_after, decompose_fk}
use Rattle.foreign_keys.specs.Shared.{FkFits}
use Rattle.op_tables.specs.inner.CellFacts.{cell_has, kept_has, or_has, map_has, in_has, is_some}
use Rattle.foreign_keys.specs.Shared.{Ready}
use Rattle.op_fk_decompose.specs.inner.DecomposeForward.{first_sound}
use Rattle.op_fk_decompose.specs.inner.DecomposeKept.{pick_new, alone_none, snd_at, none_made, kept_at}
use Rattle.op_fk_decompose.specs.inner.DecomposeStill.{nothing_drawn, first_is, second_is}

-- what new T has at an identifier is a T part, an old row or a drawn one
new_has : (P : Cell → Type 0) (f : List Value → List Value) (al re : Bool) (r t x : Cell) → P None → ((v : List Value) → r ≡ Some v → P (Some (f v))) → ((v : List Value) → t ≡ Some v → P (Some v)) → ((v : List Value) → x ≡ Some v → P (Some v))
    → P (or_else (kept_if al (map_cell f r)) (or_else (kept_if re t) x))
new_has P f al re r t x none hr ht hx =
    or_has P (kept_if al (map_cell f r)) (or_else (kept_if re t) x) (kept_has P al (map_cell f r) none (map_has P f r none hr))
    (or_has P (kept_if re t) x (kept_has P re t none (cell_has P t none ht)) (cell_has P x none hx))

module _ (k : FkParts) (w a b z : ℕ) (well : FkWell k w a b z) (s t near : Rows) (n : ℕ) (ok : Ready w b z s t near n) where
  -- the values drawn for
  abbrev dd : List (List Value)
  dd = values_drawn k s t near

  -- new S
  abbrev ns : Rows
  ns = s_after k s t near n

  -- new T
  abbrev nt : Rows
  nt = t_after k s t near n

  -- the next identifier after those drawn
  abbrev next : ℕ
  next = n + length dd

  -- the drawn rows are below it
  drawn_rows : RowsSound next (numbered n dd)
  drawn_rows = drawn_sound k n next (needs k s t) near (λ v h. well.sound_second next v h) (omega arith) ok.near_below

  -- the drawn rows rise
  drawn_rise : RiseFrom 0 (numbered n dd)
  drawn_rise = numbered_rise 0 n dd (omega arith)

  -- both new tables are below it
  pub both_sound : TablesSound next (ns ∷ nt ∷ [])
  both_sound =
      let near_b = rows_more n next (omega arith) near ok.near_below in
      let t_b = rows_more n next (omega arith) t ok.t_below in (
        sound_table next (ids_in near []) (new_first k s t n dd near) (below_ids next (near ∷ []) [] (near_b, tt) tt) (λ p. first_sound k w a b z well s t near n ok p),
        (
          sound_table next (ids_over (near ∷ t ∷ numbered n dd ∷ []) []) (new_second k s t n dd near ns) (below_ids next (near ∷ t ∷ numbered n dd ∷ []) [] (near_b, (t_b, (drawn_rows, tt))) tt)
              (λ q. new_has (CellSound next) k.second (alone k s t q) (referred k ns q || is_there (row_of ns q)) (row_of near q) (row_of t q) (row_of (numbered n dd) q) tt
              (λ v e. well.sound_second next v (sound_at next near q v near_b e).1) (λ v e. (sound_at next t q v t_b e).1) (λ v e. (sound_at next (numbered n dd) q v drawn_rows e).1)),
          tt,
        ),
      )

  -- a row of S has z values
  near_row_wide : (o : Option (Option Value)) (f : Value) (x : List Value) → length x ≡ a → CellWide z (near_row k o f x)
  near_row_wide None f x e = tt
  near_row_wide (Some h) f x e = well.long_put x (value_or f h) e

  -- new S rises
  pub first_rise : RiseFrom 0 ns
  first_rise = one_rise near (new_first k s t n dd near) ok.near_rise

  -- rows of new S have z values
  pub first_wide : RowsWide z ns
  first_wide = wide_table z (ids_in near []) (new_first k s t n dd near)
      (λ p. in_has (CellWide z) (row_of near p) (λ row. near_row k (how k s t p row) (ref k s t n dd (k.second row)) (k.first row)) tt
      (λ row e. near_row_wide (how k s t p row) (ref k s t n dd (k.second row)) (k.first row) (well.long_first row (wide_at w near p row ok.near_wide e))))

  -- new T rises
  pub second_rise : RiseFrom 0 nt
  second_rise = three_rise near t (numbered n dd) (new_second k s t n dd near ns) ok.near_rise ok.t_rise drawn_rise

  -- rows of new T have b values
  pub second_wide : RowsWide b nt
  second_wide = wide_table b (ids_over (near ∷ t ∷ numbered n dd ∷ []) []) (new_second k s t n dd near ns)
      (λ q. new_has (CellWide b) k.second (alone k s t q) (referred k ns q || is_there (row_of ns q)) (row_of near q) (row_of t q) (row_of (numbered n dd) q) tt
      (λ v e. well.long_second v (wide_at w near q v ok.near_wide e)) (λ v e. wide_at b t q v ok.t_wide e) (λ v e. drawn_wide k w a b z well (needs k s t) near n q v ok.near_rise ok.near_wide e))

  -- what new T has is of the near side, of old T, or drawn
  pub fresh : (q : ℕ) (v : List Value) → row_of nt q ≡ Some v → row_of near q ≡ None → row_of t q ≡ None → n ≤ q
  fresh q v at none gone =
      let e : row_of (numbered n dd) q ≡ Some v =
      sym (ap (λ (c : Cell). or_else (kept_if (alone k s t q) (map_cell k.second c)) (or_else (kept_if (referred k ns q || is_there (row_of ns q)) (row_of t q)) (row_of (numbered n dd) q))) none
      ∙ pick_new (alone k s t q) (referred k ns q || is_there (row_of ns q)) None (row_of t q) (row_of (numbered n dd) q) (alone_none k s t q gone) gone)
      ∙ sym (snd_at k w a b z well s t near n ok q) ∙ at in
      (numbered_from n dd q v (distinct k (needs k s t) [] near tt) e).1.1

module _ (Fits : List Heading → List Heading → Type 0) (k : FkParts) (w a b z : ℕ) (fit : (hs ht : List Heading) → Fits hs ht → FkFits k w a b z hs ht) where
  -- DECOMPOSE with these parts
  abbrev m : Meaning
  m = decompose_fk Fits k

  -- the source is one table
  pub source_of : (hs ht : List Heading) (ts : Tables) → Fits hs ht → AreTablesOf hs ts → One w ts
  source_of hs ht ts fits h = let f = fit hs ht fits in one_table hs f.source w ts f.source_is f.source_wide h

  -- the target is two tables
  pub target_of : (hs ht : List Heading) (ts : Tables) → Fits hs ht → AreTablesOf ht ts → Two z b ts
  target_of hs ht ts fits h = let f = fit hs ht fits in two_tables ht f.first f.second z b ts f.target_is f.first_wide f.second_wide h

  -- what is used of the tables before a mapping
  ready : (hs ht : List Heading) (near : Tables) (old : PairState) (n : ℕ) → MayMap m hs ht near old n → Ready w b z (first_table old.target) (second_table old.target) (first_table near) n
  ready hs ht near old n may =
      let r = source_of hs ht near may.sound.pair.fits may.near_of in
      let st = target_of hs ht old.target may.sound.pair.fits may.sound.pair.target_of in
      record {
        s_rise = st.rise0;
        t_rise = st.rise1;
        near_rise = r.rise;
        s_wide = st.wide0;
        t_wide = st.wide1;
        near_wide = r.wide;
        s_below = sound0 n old.target may.sound.target;
        t_below = sound1 n old.target may.sound.target;
        near_below = sound0 n near may.near_sound;
      }

  -- after a mapping both sides are related
  pub kept : (hs ht : List Heading) (near : Tables) (old : PairState) (n : ℕ) → MayMap m hs ht near old n → IsPair m hs ht (pair_after m near old n)
  kept hs ht near old n may =
      let ok = ready hs ht near old n may in
      let f = fit hs ht may.sound.pair.fits in
      let s = first_table old.target in
      let t = second_table old.target in
      let r = first_table near in
      record {
        fits = may.sound.pair.fits;
        related = (refl, kept_at k w a b z f.well s t r n ok);
        source_of = may.near_of;
        target_of = two_wide ht f.first f.second z b (s_after k s t r n) (t_after k s t r n) f.target_is f.first_wide f.second_wide
            (first_rise k w a b z f.well s t r n ok) (first_wide k w a b z f.well s t r n ok) (second_rise k w a b z f.well s t r n ok) (second_wide k w a b z f.well s t r n ok);
      }

  -- an identifier of the new target is old or drawn
  new_row : (near : Tables) (old : PairState) (n : ℕ) (ok : Ready w b z (first_table old.target) (second_table old.target) (first_table near) n) (well : FkWell k w a b z) (id : ℕ)
      → HasRow id (m.forward near old n).far → HasRow id near ⊎ (InPair id old ⊎ (n ≤ id))
  new_row near old n ok well id (inl own) =
      is_some (row_of (s_after k (first_table old.target) (second_table old.target) (first_table near) n) id) own (λ v e.
      by_option (row_of (first_table near) id)
      (λ none. let gone = none_made k w a b z well (first_table old.target) (second_table old.target) (first_table near) n ok id none in absurd (cc))
      (λ row at. inl (in_first id near row at)))
  new_row near old n ok well id (inr (inl own)) =
      is_some (row_of (t_after k (first_table old.target) (second_table old.target) (first_table near) n) id) own (λ v e.
      by_option (row_of (first_table near) id)
      (λ none. by_option (row_of (second_table old.target) id)
      (λ gone. inr (inr (fresh k w a b z well (first_table old.target) (second_table old.target) (first_table near) n ok id v e none gone)))
      (λ row at. inr (inl (inr (in_second id old.target row at)))))
      (λ row at. inl (in_first id near row at)))
  new_row near old n ok well id (inr (inr none)) = absurd none

  -- identifiers that are drawn begin at the next one
  pub below : (hs ht : List Heading) (near : Tables) (old : PairState) (n : ℕ) → MayMap m hs ht near old n → IsBelowNext near old n (m.forward near old n)
  below hs ht near old n may =
      let ok = ready hs ht near old n may in
      let f = fit hs ht may.sound.pair.fits in
      record {
        rises = omega arith;
        far = both_sound k w a b z f.well (first_table old.target) (second_table old.target) (first_table near) n ok;
        memory = tt;
        drawn = λ id has. new_row near old n ok f.well id has;
      }

  -- a source that did not change leaves the target as it was
  pub still : (hs ht : List Heading) (old : PairState) (n : ℕ) → MayMap m hs ht old.source old n → m.forward old.source old n ≡ record { far = old.target; memory = old.memory; next = n }
  still hs ht old n may =
      let ok = ready hs ht old.source old n may in
      let f = fit hs ht may.sound.pair.fits in
      let s = first_table old.target in
      let t = second_table old.target in
      let r = first_table old.source in
      let rel = may.sound.pair.related.1 in
      let none = nothing_drawn k w a b z f.well s t r n ok rel in
      let one = first_is k w a b z f.well s t r n ok rel in
      let two = second_is k w a b z f.well s t r n ok rel in
      let st = target_of hs ht old.target may.sound.pair.fits may.sound.pair.target_of in
      let far : (m.forward old.source old n).far ≡ old.target = ap (λ (x : Rows). x ∷ t_after k s t r n ∷ []) one ∙ ap (λ (x : Rows). s ∷ x ∷ []) two ∙ st.is in
      let next : (m.forward old.source old n).next ≡ n = ap (λ (x : List (List Value)). n + length x) none ∙ omega arith in
      ap (λ (x : Tables). record { far = x; memory = []; next = (m.forward old.source old n).next }) far ∙ ap (λ (x : ℕ). record { far = old.target; memory = []; next = x }) next
      ∙ ap (λ (x : Pairs). record { far = old.target; memory = x; next = n }) (sym may.sound.pair.related.0)
