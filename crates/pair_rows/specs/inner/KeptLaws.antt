-- The source is read back from the target, the memory and the rows in no pair.
use Rattle.std.proofs.Common.{◌≡◌, ℕ, ◌==◌, List, [], ◌∷◌, if◌then◌else◌, Bool, true, false, cond, not, Some, None, refl, ap, sym, ◌∙◌, arith}
use Rattle.std.proofs.lemmas.Bool.{eqb-true}
use Rattle.row_store.specs.Rows.{Rows, RiseFrom, row_of}
use Rattle.row_store.proofs.UndoLaws.{ext}
use Rattle.id_memory.specs.Pairs.{Pairs}
use Rattle.op_law.specs.Identifiers.{ids_in}
use Rattle.op_rows.specs.Cells.{first_cell}
use Rattle.op_rows.specs.inner.CellLemmas.{has_id, IdsRise, has_put, rise_put, rise_in, none_at}
use Rattle.op_rows.specs.inner.Tabulated.{row_from, rise_from}
use Rattle.row_parts.specs.RowCells.{Cell, map_cell, or_else, by_test}
use Rattle.row_parts.specs.Places.{pick as part}
use Rattle.pair_rows.specs.inner.Lookups.{filter_found, filter_lost, filter_rise}
use Rattle.pair_rows.specs.Stays.{stands}
use Rattle.pair_rows.specs.Kept.{alone, paired, ids_paired, side_read}

module _ (pick : ℕ × ℕ × ℕ → ℕ) (places : List ℕ) (s r : Rows) (m : Pairs) where
  -- the row of each pair is the part of the joined row
  abbrev pub ArePaired : Pairs → Type 0
  ArePaired [] = Unit {0}
  ArePaired (e ∷ es) = (map_cell (part places) (row_of r e.0) ≡ row_of s (pick e)) × ArePaired es

  -- so the part is the row
  paired_is : (es : Pairs) (id : ℕ) → ArePaired es → paired pick places r es id ≡ (if stands pick es id then row_of s id else None)
  paired_is [] id all = refl
  paired_is (e ∷ es) id all =
      by_test (pick e == id)
      (λ q. let same = eqb-true (pick e) id q in rw q (all.0 ∙ ap (λ (i : ℕ). row_of s i) same))
      (λ q. rw q (paired_is es id all.1))

  -- each identifier is read back
  read_at : (id : ℕ) → ArePaired m → or_else (row_of (alone pick m s) id) (paired pick places r m id) ≡ row_of s id
  read_at id all =
      let other = paired_is m id all in
      by_test (stands pick m id)
      (λ q.
      let lost : row_of (alone pick m s) id ≡ None = filter_lost (λ i. not (stands pick m i)) s id (ap not q) in
      rw lost (other ∙ rw q refl))
      (λ q.
      let found : row_of (alone pick m s) id ≡ row_of s id = filter_found (λ i. not (stands pick m i)) s id (ap not q) in
      let none : paired pick places r m id ≡ None = other ∙ rw q refl in
      rw (found, none) (or_none (row_of s id)))
    where
      or_none : (c : Cell) → or_else c None ≡ c
      or_none (Some row) = refl
      or_none None = refl

  -- neither is true
  or_false : (a b : Bool) → cond a true b ≡ false → (a ≡ false) × (b ≡ false)
  or_false true b e = absurd (cc)
  or_false false b e = (refl, e)

  -- an identifier that isn't listed stands in no pair
  none_listed : (es : Pairs) (ids : List ℕ) (id : ℕ) → has_id (ids_paired pick es ids) id ≡ false → (stands pick es id ≡ false) × (has_id ids id ≡ false)
  none_listed [] ids id h = (refl, h)
  none_listed (e ∷ es) ids id h =
      let both = or_false (pick e == id) (has_id (ids_paired pick es ids) id) (sym (has_put (pick e) (ids_paired pick es ids) id) ∙ h) in
      let rest = none_listed es ids id both.1 in
      let other = both.0 in
      (rw other rest.0, rest.1)

  -- the identifiers rise
  pub listed_rise : (es : Pairs) (ids : List ℕ) → IdsRise 0 ids → IdsRise 0 (ids_paired pick es ids)
  listed_rise [] ids rise = rise
  listed_rise (e ∷ es) ids rise = rise_put 0 (pick e) (ids_paired pick es ids) (omega arith) (listed_rise es ids rise)

  -- so the table is read back
  pub side_is_read : RiseFrom 0 s → ArePaired m → side_read pick places r m (alone pick m s) ≡ s
  side_is_read rise all =
      let aux = alone pick m s in
      let ids = ids_paired pick m (ids_in aux []) in
      let aux_rise : RiseFrom 0 aux = filter_rise (λ i. not (stands pick m i)) 0 s rise in
      let ids_rise : IdsRise 0 ids = listed_rise m (ids_in aux []) (rise_in 0 aux [] aux_rise tt) in
      ext 0 (side_read pick places r m aux) s (rise_from 0 ids (λ id. or_else (row_of aux id) (paired pick places r m id)) ids_rise) rise
      (λ id.
      row_from ids (λ id. or_else (row_of aux id) (paired pick places r m id)) id
      ∙ by_test (has_id ids id)
      (λ q. rw q (read_at id all))
      (λ q.
      let out = none_listed m (ids_in aux []) id q in
      let none : row_of aux id ≡ None = ap first_cell (none_at (aux ∷ []) [] id out.1).0 in
      let here : row_of aux id ≡ row_of s id = filter_found (λ i. not (stands pick m i)) s id (ap not out.0) in
      rw q (sym none ∙ here)))
