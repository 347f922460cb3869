-- The laws at one identifier give the laws of tables.
use Rattle.std.proofs.Common.{◌≡◌, [], refl, ap, sym, ◌∙◌, subst, arith}
use Rattle.id_memory.specs.Pairs.{Pairs}
use Rattle.op_law.specs.Tables.{Tables}
use Rattle.op_law.specs.Laws.{HalfLaws, Laws}
use Rattle.op_rows.specs.Cells.{Cells, cells_at, nones}
use Rattle.op_rows.specs.RowMeaning.{RowMeaning, flip_row, rowwise, RowHalf, RowLaws}
use Rattle.op_rows.specs.inner.CellLemmas.{ext_all, below_ids}
use Rattle.op_rows.specs.inner.Tabulated.{all_rise_from, well_from, all_below_from, all_rise, cells_well, empty_at}
use Rattle.op_rows.specs.inner.RowwiseAt.{aux_rise, pair_at, may_at, far_at, far_rise, far_well, drawn_none, recovers}
use Rattle.op_rows.specs.inner.RowwiseLocal.{half_local, made_long}

module _ (r : RowMeaning) (h : RowHalf r) where
  -- the laws of one direction
  pub half : HalfLaws (rowwise r)
  half = record {
    kept = λ hs ht near old n may.
        let pair = may.sound.pair in
        record {
          fits = pair.fits;
          related = (refl, λ id. subst (λ (c : Cells). r.Related (cells_at near id) c) (sym (far_at r h hs ht near old n pair may.near_of id)) (h.related hs ht _ _ _ (pair_at r h hs ht old pair id) (cells_well hs near id may.near_of)));
          source_of = may.near_of;
          target_of = well_from r.targets ht _ _ (h.fits_long hs ht pair.fits).1 (far_rise r h hs ht near old pair may.near_of) (far_well r h hs ht near old pair may.near_of);
        };
    still = λ hs ht old n may.
        let pair = may.sound.pair in
        let far : ((rowwise r).forward old.source old n).far ≡ old.target =
        ext_all _ old.target (all_rise_from r.targets _ _ (far_rise r h hs ht old.source old pair pair.source_of)) (all_rise ht old.target pair.target_of)
        (λ id. far_at r h hs ht old.source old n pair pair.source_of id ∙ h.still hs ht _ _ (pair_at r h hs ht old pair id)) in
        ap (λ (ts : Tables). record { far = ts; memory = []; next = n }) far ∙ ap (λ (m : Pairs). record { far = old.target; memory = m; next = n }) (sym pair.related.0);
    below = λ hs ht near old n may. record {
      rises = omega arith;
      far = all_below_from n r.targets _ _ (below_ids n near _ may.near_sound (below_ids n old.source _ may.sound.source (below_ids n old.target [] may.sound.target tt)))
          (λ id. h.below hs ht _ _ _ n (may_at r h hs ht near old n may id));
      memory = tt;
      drawn = drawn_none r h near old n;
    };
    recovered = recovers r h;
    readable = h.readable;
    closed_more = h.closed_more;
    aux_rises = aux_rise r h;
    aux_many = λ hs ht p q one two. made_long r.source_aux _ _ ∙ sym (made_long r.source_aux _ _);
    local = λ local. half_local r h;
    empty = λ hs ht fits.
        let long = h.fits_long hs ht fits in
        (refl, λ id. let a = empty_at hs id ∙ ap nones long.0 in let b = empty_at ht id ∙ ap nones long.1 in rw (a, b) h.empty);
  }

-- the laws at one identifier give those of tables
pub rowwise_laws : (r : RowMeaning) → RowLaws r → Laws (rowwise r)
rowwise_laws r laws = (half r laws.0, half (flip_row r) laws.1)

-- the laws at one identifier hold of a flip as well
pub flip_row_laws : (r : RowMeaning) → RowLaws r → RowLaws (flip_row r)
flip_row_laws r laws = (laws.1, laws.0)
