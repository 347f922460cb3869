-- DECOMPOSE ON FK, backward: its laws.
use Rattle.std.proofs.Common.{◌≡◌, ℕ, List, [], ◌∷◌, Bool, true, false, length, Option, Some, None, refl, ap, sym, ◌∙◌, subst, arith}
use Rattle.std.proofs.lemmas.Bool.{false≢true}
use mathlib.Core.Logic.{inl, inr}
use Rattle.par_base.specs.declared.value.Value.{Value}
use Rattle.row_store.specs.Rows.{Rows, RiseFrom, row_of}
use Rattle.row_store.proofs.UndoLaws.{ext}
use Rattle.id_memory.specs.Pairs.{Pairs}
use Rattle.op_law.specs.Tables.{Tables, Heading, RowsWide, AreTablesOf}
use Rattle.op_law.specs.Sound.{ValuesSound, TablesSound, HasRow}
use Rattle.op_law.specs.Identifiers.{ids_over}
use Rattle.op_law.specs.Meaning.{Meaning, flip}
use Rattle.op_law.specs.Laws.{HalfLaws}
use Rattle.op_law.proofs.SoundLaws.{sound_at, wide_at}
use Rattle.op_rows.specs.Cells.{CellWide, CellSound}
use Rattle.op_rows.specs.inner.CellLemmas.{below_ids}
use Rattle.row_parts.specs.RowCells.{Cell, row_or, by_option}
use Rattle.op_tables.specs.SideTables.{first_table, second_table}
use Rattle.foreign_keys.specs.KeyParts.{FkParts, FkWell}
use Rattle.foreign_keys.specs.References.{goal_of, at_goal, far_part}
use Rattle.op_tables.specs.Lookups.{two_at, two_rise, wide_table, sound_table, Two, one_wide, sound0, sound1, in_first, in_second}
use Rattle.op_fk_decompose.specs.Decompose.{alone, joined_in, joined, joined_table, decompose_fk}
use Rattle.foreign_keys.specs.Shared.{FkFits}
use Rattle.op_tables.specs.inner.CellFacts.{is_some}
use Rattle.op_fk_decompose.specs.inner.DecomposeKept.{none_joined}
use Rattle.op_fk_decompose.specs.inner.DecomposeLaws.{source_of, target_of}

module _ (k : FkParts) where
  -- the table that is joined has at each identifier what is joined there
  pub joined_at : (s t : Rows) (p : ℕ) → row_of (joined_table k s t) p ≡ joined k s t p
  joined_at s t p = two_at s t (joined k s t) p (λ e f. ap (λ (c : Cell). joined_in k c (row_of t p) (alone k s t p) t) e ∙ ap (λ (c : Cell). joined_in k None c (alone k s t p) t) f ∙ none_joined k (alone k s t p) t)

  -- a property of what R has at an identifier, by its three cases
  joined_has : (P : Cell → Type 0) (c there : Cell) (al : Bool) (t : Rows) → P None → ((v : List Value) → c ≡ Some v → P (Some (k.join (k.part v) (far_part k t (k.key v))))) → ((v : List Value) → there ≡ Some v → P (Some (k.join k.null_first v))) → P (joined_in k c there al t)
  joined_has P (Some v) there al t none h g = h v refl
  joined_has P None None true t none h g = none
  joined_has P None (Some v) true t none h g = g v refl
  joined_has P None there false t none h g = none

  -- a property of the T part that a goal gives
  goal_has : (Q : List Value → Type 0) (t : Rows) (o : Option ℕ) → Q k.null_second → ((q : ℕ) (v : List Value) → row_of t q ≡ Some v → Q v) → Q (row_or k.null_second (at_goal t o))
  goal_has Q t None none h = none
  goal_has Q t (Some q) none h = by_option (row_of t q) (λ e. subst (λ (c : Cell). Q (row_or k.null_second c)) (sym e) none) (λ v e. subst (λ (c : Cell). Q (row_or k.null_second c)) (sym e) (h q v e))

module _ (Fits : List Heading → List Heading → Type 0) (k : FkParts) (w a b z : ℕ) (fit : (hs ht : List Heading) → Fits hs ht → FkFits k w a b z hs ht) where
  -- DECOMPOSE with these parts
  abbrev m : Meaning
  m = decompose_fk Fits k

  -- rows of R have w values
  pub back_wide : (well : FkWell k w a b z) (st : Tables) → Two z b st → RowsWide w (joined_table k (first_table st) (second_table st))
  back_wide well st two =
      wide_table w (ids_over (first_table st ∷ second_table st ∷ []) []) (joined k (first_table st) (second_table st))
      (λ p. joined_has k (CellWide w) (row_of (first_table st) p) (row_of (second_table st) p) (alone k (first_table st) (second_table st) p) (second_table st) tt
      (λ v e. well.long_join _ _ (well.long_part v (wide_at z (first_table st) p v two.wide0 e)) (goal_has k (λ x. length x ≡ b) (second_table st) (goal_of (k.key v)) well.long_null_second (λ q u f. wide_at b (second_table st) q u two.wide1 f)))
      (λ v e. well.long_join _ _ well.long_null_first (wide_at b (second_table st) p v two.wide1 e)))

  -- R rises
  pub back_rise : (st : Tables) → Two z b st → RiseFrom 0 (joined_table k (first_table st) (second_table st))
  back_rise st two = two_rise (first_table st) (second_table st) (joined k (first_table st) (second_table st)) two.rise0 two.rise1

  -- R holds no reference that S and T lack room for
  back_sound : (well : FkWell k w a b z) (n : ℕ) (st : Tables) → TablesSound n st → TablesSound n (joined_table k (first_table st) (second_table st) ∷ [])
  back_sound well n st h =
      let sb = sound0 n st h in
      let tb = sound1 n st h in (
        sound_table n (ids_over (first_table st ∷ second_table st ∷ []) []) (joined k (first_table st) (second_table st)) (below_ids n (first_table st ∷ second_table st ∷ []) [] (sb, (tb, tt)) tt)
            (λ p. joined_has k (CellSound n) (row_of (first_table st) p) (row_of (second_table st) p) (alone k (first_table st) (second_table st) p) (second_table st) tt
            (λ v e. well.sound_join n _ _ (well.sound_part n v (sound_at n (first_table st) p v sb e).1) (goal_has k (λ x. ValuesSound n x) (second_table st) (goal_of (k.key v)) (well.sound_null_second n) (λ q u f. (sound_at n (second_table st) q u tb f).1)))
            (λ v e. well.sound_join n _ _ (well.sound_null_first n) (sound_at n (second_table st) p v tb e).1)),
        tt,
      )

  -- R is what S and T give
  back_is : (hs ht : List Heading) (r st : Tables) → Fits hs ht → AreTablesOf hs r → AreTablesOf ht st → ((p : ℕ) → row_of (first_table r) p ≡ joined k (first_table st) (second_table st) p) → joined_table k (first_table st) (second_table st) ∷ [] ≡ r
  back_is hs ht r st fits rof sof rel =
      let one = source_of Fits k w a b z fit hs ht r fits rof in
      let two = target_of Fits k w a b z fit hs ht st fits sof in
      ap (λ (x : Rows). x ∷ []) (ext 0 _ _ (back_rise st two) one.rise (λ p. joined_at k (first_table st) (second_table st) p ∙ sym (rel p))) ∙ one.is

  -- no identifier is new in R
  back_row : (near : Tables) (id : ℕ) → HasRow id (joined_table k (first_table near) (second_table near) ∷ []) → HasRow id near
  back_row near id (inl own) =
      is_some (row_of (joined_table k (first_table near) (second_table near)) id) own (λ v e.
      by_option (row_of (first_table near) id)
      (λ none. by_option (row_of (second_table near) id)
      (λ gone.
      let no : row_of (joined_table k (first_table near) (second_table near)) id ≡ None =
      joined_at k (first_table near) (second_table near) id
      ∙ ap (λ (c : Cell). joined_in k c (row_of (second_table near) id) (alone k (first_table near) (second_table near) id) (second_table near)) none
      ∙ ap (λ (c : Cell). joined_in k None c (alone k (first_table near) (second_table near) id) (second_table near)) gone ∙ none_joined k _ (second_table near) in
      absurd (cc))
      (λ row at. in_second id near row at))
      (λ row at. in_first id near row at))
  back_row near id (inr none) = absurd none

  -- the laws of the mapping backward
  pub backward : HalfLaws (flip m)
  backward = record {
    kept = λ ht hs near old n may.
        let f = fit hs ht may.sound.pair.fits in
        let two = target_of Fits k w a b z fit hs ht near may.sound.pair.fits may.near_of in
        record {
          fits = may.sound.pair.fits;
          related = (refl, λ p. joined_at k (first_table near) (second_table near) p);
          source_of = may.near_of;
          target_of = one_wide hs f.source w (joined_table k (first_table near) (second_table near)) f.source_is f.source_wide (back_rise near two) (back_wide f.well near two);
        };
    still = λ ht hs old n may.
        ap (λ (x : Tables). record { far = x; memory = []; next = n }) (back_is hs ht old.target old.source may.sound.pair.fits may.sound.pair.target_of may.sound.pair.source_of may.sound.pair.related.1)
        ∙ ap (λ (x : Pairs). record { far = old.target; memory = x; next = n }) (sym may.sound.pair.related.0);
    below = λ ht hs near old n may. record {
      rises = omega arith;
      far = back_sound (fit hs ht may.sound.pair.fits).well n near may.near_sound;
      memory = tt;
      drawn = λ id has. inl (back_row near id has);
    };
    recovered = λ ht hs p reads pair. back_is hs ht p.target p.source pair.fits pair.target_of pair.source_of pair.related.1;
    readable = λ ht hs fits. inr refl;
    empty = λ ht hs fits. let f = fit hs ht fits in (refl, λ p. rw (f.source_is, f.target_is) refl);
    closed_more = λ n k h c. tt;
    aux_rises = λ ht hs p pair. tt;
    aux_many = λ hs ht p q one two. refl;
    local = λ local. absurd (false≢true local);
  }
