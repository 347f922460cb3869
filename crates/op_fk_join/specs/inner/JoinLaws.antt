-- JOIN ON FK: the laws forward, and kept, still and below backward.
use Rattle.std.proofs.Common.{◌≡◌, ℕ, ◌+◌, ◌≤◌, ◌⊎◌, List, [], ◌∷◌, length, Option, Some, None, refl, ap, sym, ◌∙◌, arith}
use Rattle.std.proofs.lemmas.Bool.{false≢true}
use mathlib.Core.Logic.{inl, inr}
use Rattle.par_base.specs.declared.value.Value.{Value}
use Rattle.row_store.specs.Rows.{Rows, RiseFrom, row_of}
use Rattle.row_store.proofs.UndoLaws.{ext}
use Rattle.id_memory.specs.Pairs.{Pairs}
use Rattle.op_law.specs.Tables.{Tables, Heading, RowsWide, AreTablesOf}
use Rattle.op_law.specs.Sound.{TablesSound, HasRow}
use Rattle.op_law.specs.Identifiers.{ids_in}
use Rattle.op_law.specs.Meaning.{Meaning, PairState, flip}
use Rattle.op_law.specs.Premises.{IsPair, MayMap, pair_after}
use Rattle.op_law.specs.Laws.{HalfLaws, InPair, IsBelowNext}
use Rattle.op_law.proofs.SoundLaws.{sound_at, wide_at}
use Rattle.op_rows.specs.Cells.{CellWide, CellSound}
use Rattle.op_rows.specs.inner.CellLemmas.{below_ids}
use Rattle.row_parts.specs.RowCells.{Cell, by_option}
use Rattle.op_tables.specs.SideTables.{first_table, second_table}
use Rattle.foreign_keys.specs.KeyParts.{FkParts, FkWell}
use Rattle.foreign_keys.specs.References.{goal_of, at_goal}
use Rattle.op_tables.specs.Lookups.{one_at, one_rise, wide_table, sound_table, One, one_table, Two, two_tables, one_wide, two_wide, sound0, sound1, in_first, in_second}
use Rattle.op_fk_join.specs.Join.{joined_row, s_before, t_before, join_table, join_fk}
use Rattle.foreign_keys.specs.Shared.{Ready}
use Rattle.op_tables.specs.inner.CellFacts.{map_has, is_some}
use Rattle.op_fk_join.specs.inner.JoinTables.{s_rise, t_rise, s_wide, t_wide, both_sound, related_after, s_from, t_from, none_drawn, s_still, t_still}
use Rattle.foreign_keys.specs.Shared.{FkFits}

module _ (k : FkParts) where
  -- where S lacks an identifier, R does
  pub none_join : (t : Rows) (c : Cell) → c ≡ None → joined_row k c t ≡ None
  none_join t c e = rw e refl

  -- what R has at p
  pub joined_at : (s t : Rows) (p : ℕ) → row_of (join_table k s t) p ≡ joined_row k (row_of s p) t
  joined_at s t p = one_at s (λ p. joined_row k (row_of s p) t) p (λ e. none_join t (row_of s p) e)

  -- what holds of no row and of each joined row holds of what R has
  joined_has : (P : Cell → Type 0) (c : Cell) (t : Rows) → P None → ((v u : List Value) → c ≡ Some v → at_goal t (goal_of (k.key v)) ≡ Some u → P (Some (k.join (k.part v) u))) → P (joined_row k c t)
  joined_has P None t none h = none
  joined_has P (Some v) t none h = map_has P (k.join (k.part v)) (at_goal t (goal_of (k.key v))) none (λ u e. h v u refl e)

-- a row at a goal is a row of T
pub at_goal_is : {X : Type 0} (t : Rows) (o : Option ℕ) (u : List Value) → at_goal t o ≡ Some u → ((q : ℕ) → o ≡ Some q → row_of t q ≡ Some u → X) → X
at_goal_is t None u e f = absurd (cc)
at_goal_is t (Some q) u e f = f q refl e

module _ (Fits : List Heading → List Heading → Type 0) (k : FkParts) (w a b z : ℕ) (fit : (hs ht : List Heading) → Fits hs ht → FkFits k w a b z ht hs) where
  -- the operator
  abbrev m : Meaning
  m = join_fk Fits k

  -- the target is one table of w values
  pub target_one : (hs ht : List Heading) (ts : Tables) → Fits hs ht → AreTablesOf ht ts → One w ts
  target_one hs ht ts fits h = let f = fit hs ht fits in one_table ht f.source w ts f.source_is f.source_wide h

  -- the source is a table of z values and one of b
  pub source_two : (hs ht : List Heading) (ts : Tables) → Fits hs ht → AreTablesOf hs ts → Two z b ts
  source_two hs ht ts fits h = let f = fit hs ht fits in two_tables hs f.first f.second z b ts f.target_is f.first_wide f.second_wide h

  -- forward: nothing is drawn
  pub table_rise : (st : Tables) → Two z b st → RiseFrom 0 (join_table k (first_table st) (second_table st))
  table_rise st two = one_rise (first_table st) (λ p. joined_row k (row_of (first_table st) p) (second_table st)) two.rise0

  -- R is as wide as its heading says
  pub table_wide : (well : FkWell k w a b z) (st : Tables) → Two z b st → RowsWide w (join_table k (first_table st) (second_table st))
  table_wide well st two =
      wide_table w (ids_in (first_table st) []) (λ p. joined_row k (row_of (first_table st) p) (second_table st))
      (λ p. joined_has k (CellWide w) (row_of (first_table st) p) (second_table st) tt
      (λ v u e f. well.long_join _ _ (well.long_part v (wide_at z (first_table st) p v two.wide0 e)) (at_goal_is (second_table st) (goal_of (k.key v)) u f (λ q g at. wide_at b (second_table st) q u two.wide1 at))))

  -- R is sound where the sources are
  table_sound : (well : FkWell k w a b z) (n : ℕ) (st : Tables) → TablesSound n st → TablesSound n (join_table k (first_table st) (second_table st) ∷ [])
  table_sound well n st h =
      let sb = sound0 n st h in
      let tb = sound1 n st h in (
        sound_table n (ids_in (first_table st) []) (λ p. joined_row k (row_of (first_table st) p) (second_table st)) (below_ids n (first_table st ∷ []) [] (sb, tt) tt)
            (λ p. joined_has k (CellSound n) (row_of (first_table st) p) (second_table st) tt
            (λ v u e f. well.sound_join n _ _ (well.sound_part n v (sound_at n (first_table st) p v sb e).1) (at_goal_is (second_table st) (goal_of (k.key v)) u f (λ q g at. (sound_at n (second_table st) q u tb at).1)))),
        tt,
      )

  -- R is the joined rows
  table_is : (hs ht : List Heading) (st r : Tables) → Fits hs ht → AreTablesOf hs st → AreTablesOf ht r → ((p : ℕ) → row_of (first_table r) p ≡ joined_row k (row_of (first_table st) p) (second_table st)) → join_table k (first_table st) (second_table st) ∷ [] ≡ r
  table_is hs ht st r fits sof rof rel =
      let one = target_one hs ht r fits rof in
      let two = source_two hs ht st fits sof in
      ap (λ (x : Rows). x ∷ []) (ext 0 _ _ (table_rise st two) one.rise (λ p. joined_at k (first_table st) (second_table st) p ∙ sym (rel p))) ∙ one.is

  -- each identifier of R is one of S
  table_row : (near : Tables) (id : ℕ) → HasRow id (join_table k (first_table near) (second_table near) ∷ []) → HasRow id near
  table_row near id (inl own) =
      is_some (row_of (join_table k (first_table near) (second_table near)) id) own (λ v e.
      by_option (row_of (first_table near) id)
      (λ none. let no = joined_at k (first_table near) (second_table near) id ∙ none_join k (second_table near) (row_of (first_table near) id) none in absurd (cc))
      (λ row at. in_first id near row at))
  table_row near id (inr none) = absurd none

  -- the laws of the mapping from S and T to R
  pub forward : HalfLaws m
  forward = record {
    kept = λ hs ht near old n may.
        let f = fit hs ht may.sound.pair.fits in
        let two = source_two hs ht near may.sound.pair.fits may.near_of in
        record {
          fits = may.sound.pair.fits;
          related = (refl, λ p. joined_at k (first_table near) (second_table near) p);
          source_of = may.near_of;
          target_of = one_wide ht f.source w (join_table k (first_table near) (second_table near)) f.source_is f.source_wide (table_rise near two) (table_wide f.well near two);
        };
    still = λ hs ht old n may.
        ap (λ (x : Tables). record { far = x; memory = []; next = n }) (table_is hs ht old.source old.target may.sound.pair.fits may.sound.pair.source_of may.sound.pair.target_of may.sound.pair.related.1)
        ∙ ap (λ (x : Pairs). record { far = old.target; memory = x; next = n }) (sym may.sound.pair.related.0);
    below = λ hs ht near old n may. record {
      rises = omega arith;
      far = table_sound (fit hs ht may.sound.pair.fits).well n near may.near_sound;
      memory = tt;
      drawn = λ id has. inl (table_row near id has);
    };
    recovered = λ hs ht p reads pair. table_is hs ht p.source p.target pair.fits pair.source_of pair.target_of pair.related.1;
    readable = λ hs ht fits. inr refl;
    empty = λ hs ht fits. let f = fit hs ht fits in (refl, λ p. rw (f.source_is, f.target_is) refl);
    closed_more = λ n k h c. tt;
    aux_rises = λ hs ht p pair. tt;
    aux_many = λ hs ht p q one two. refl;
    local = λ local. absurd (false≢true local);
  }

  -- what is used of the old sources and new R
  ready : (hs ht : List Heading) (near : Tables) (old : PairState) (n : ℕ) → MayMap (flip m) ht hs near old n → Ready w b z (first_table old.target) (second_table old.target) (first_table near) n
  ready hs ht near old n may =
      let r = target_one hs ht near may.sound.pair.fits may.near_of in
      let st = source_two hs ht old.target may.sound.pair.fits may.sound.pair.target_of in
      record {
        s_rise = st.rise0;
        t_rise = st.rise1;
        near_rise = r.rise;
        s_wide = st.wide0;
        t_wide = st.wide1;
        near_wide = r.wide;
        s_below = sound0 n old.target may.sound.target;
        t_below = sound1 n old.target may.sound.target;
        near_below = sound0 n near may.near_sound;
      }

  -- the relation holds after a mapping from R
  pub kept : (ht hs : List Heading) (near : Tables) (old : PairState) (n : ℕ) → MayMap (flip m) ht hs near old n → IsPair (flip m) ht hs (pair_after (flip m) near old n)
  kept ht hs near old n may =
      let ok = ready hs ht near old n may in
      let f = fit hs ht may.sound.pair.fits in
      let s = first_table old.target in
      let t = second_table old.target in
      let r = first_table near in
      record {
        fits = may.sound.pair.fits;
        related = (refl, related_after k w a b z f.well s t r n ok);
        source_of = may.near_of;
        target_of = two_wide hs f.first f.second z b (s_before k s t r n) (t_before k s t r n) f.target_is f.first_wide f.second_wide
            (s_rise k w a b z f.well s t r n ok) (s_wide k w a b z f.well s t r n ok) (t_rise k w a b z f.well s t r n ok) (t_wide k w a b z f.well s t r n ok);
      }

  -- each identifier of new S and new T is of new R, old, or drawn
  new_row : (near : Tables) (old : PairState) (n : ℕ) (ok : Ready w b z (first_table old.target) (second_table old.target) (first_table near) n) (well : FkWell k w a b z) (id : ℕ)
      → HasRow id ((flip m).forward near old n).far → HasRow id near ⊎ (InPair id old ⊎ (n ≤ id))
  new_row near old n ok well id (inl own) =
      is_some (row_of (s_before k (first_table old.target) (second_table old.target) (first_table near) n) id) own (λ v e.
      by_option (row_of (first_table near) id)
      (λ none. by_option (row_of (first_table old.target) id)
      (λ gone. absurd (s_from k w a b z well (first_table old.target) (second_table old.target) (first_table near) n ok id v e none gone))
      (λ row at. inr (inl (inr (in_first id old.target row at)))))
      (λ row at. inl (in_first id near row at)))
  new_row near old n ok well id (inr (inl own)) =
      is_some (row_of (t_before k (first_table old.target) (second_table old.target) (first_table near) n) id) own (λ v e.
      by_option (row_of (second_table old.target) id)
      (λ gone. inr (inr (t_from k w a b z well (first_table old.target) (second_table old.target) (first_table near) n ok id v e gone)))
      (λ row at. inr (inl (inr (in_second id old.target row at)))))
  new_row near old n ok well id (inr (inr none)) = absurd none

  -- each identifier is below the next one
  pub below : (ht hs : List Heading) (near : Tables) (old : PairState) (n : ℕ) → MayMap (flip m) ht hs near old n → IsBelowNext near old n ((flip m).forward near old n)
  below ht hs near old n may =
      let ok = ready hs ht near old n may in
      let f = fit hs ht may.sound.pair.fits in
      record {
        rises = omega arith;
        far = both_sound k w a b z f.well (first_table old.target) (second_table old.target) (first_table near) n ok;
        memory = tt;
        drawn = λ id has. new_row near old n ok f.well id has;
      }

  -- where R is as it was, so are S and T
  pub still : (ht hs : List Heading) (old : PairState) (n : ℕ) → MayMap (flip m) ht hs old.source old n → (flip m).forward old.source old n ≡ record { far = old.target; memory = old.memory; next = n }
  still ht hs old n may =
      let ok = ready hs ht old.source old n may in
      let f = fit hs ht may.sound.pair.fits in
      let s = first_table old.target in
      let t = second_table old.target in
      let r = first_table old.source in
      let rel = may.sound.pair.related.1 in
      let none = none_drawn k w a b z f.well s t r n ok rel in
      let one = s_still k w a b z f.well s t r n ok rel in
      let two = t_still k w a b z f.well s t r n ok rel in
      let st = source_two hs ht old.target may.sound.pair.fits may.sound.pair.target_of in
      let far : ((flip m).forward old.source old n).far ≡ old.target = ap (λ (x : Rows). x ∷ t_before k s t r n ∷ []) one ∙ ap (λ (x : Rows). s ∷ x ∷ []) two ∙ st.is in
      let next : ((flip m).forward old.source old n).next ≡ n = ap (λ (x : List (List Value)). n + length x) none ∙ omega arith in
      ap (λ (x : Tables). record { far = x; memory = []; next = ((flip m).forward old.source old n).next }) far ∙ ap (λ (x : ℕ). record { far = old.target; memory = []; next = x }) next
      ∙ ap (λ (x : Pairs). record { far = old.target; memory = x; next = n }) (sym may.sound.pair.related.0)
