-- What is picked of the cells is the difference of the tables.
use Rattle.std.proofs.Common.{◌≡◌, ℕ, ◌+◌, ◌*◌, ◌≤◌, List, [], ◌∷◌, Bool, true, false, not, length, Ok, refl, ap, sym, ◌∙◌, subst, arith}
use Rattle.id_memory.specs.Pairs.{pair_of}
use Rattle.id_memory.specs.States.{CounterState}
use Rattle.row_store.specs.Rows.{row_of}
use Rattle.op_law.specs.Tables.{Tables, AllRise}
use Rattle.op_law.specs.Meaning.{Meaning, PairState}
use Rattle.op_rows.specs.Cells.{Cells, cells_at, first_cell, other_cells}
use Rattle.op_rows.specs.NearSides.{seen_from}
use Rattle.op_rows.specs.RowCalls.{MayRows, SomeRows}
use Rattle.op_rows.specs.declared.near_side.NearSide.{NearSide}
use Rattle.op_rows.specs.RowMeaning.{RowMeaning, RowHalf, RowLaws, flip_row, rowwise}
use Rattle.op_rows.specs.inner.CellLemmas.{has_id, IdsRise}
use Rattle.op_rows.specs.inner.RowwiseAt.{aux_at, aux_rise, far_at, pair_at}
use Rattle.op_rows.specs.inner.RowwiseLaws.{half}
use Rattle.op_rows.specs.inner.Tabulated.{all_rise, cells_well, tables_long}
use Rattle.row_changes.specs.Changed.{TableChanges, changed, changed_tables}
use Rattle.row_changes.specs.Differences.{AreDifferences}
use Rattle.row_changes.specs.Touched.{EachPass, touched}
use Rattle.row_changes.proofs.ChangedLaws.{after_other, changed_at}
use Rattle.row_changes.proofs.PickLaws.{picks_difference}
use Rattle.row_changes.proofs.TouchedLaws.{each_pass, rise_over, stays_over, touched_pass}
use Rattle.pair_changes.specs.declared.change.PairChange.{PairChange}
use Rattle.operator_changes.specs.AuxCalls.{MayChangePair, changed_pair, touched_both}
use Rattle.operator_changes.specs.Calls.{MayChange, ahead, mapped_changes, toward, IsChangedTo, IsFarDifference}
use Rattle.operator_changes.specs.Pairs.{side_at}
use Rattle.cell_changes.specs.Crossing.{near_side, far_cells, aux_cells, MapsCells, MayCross, MayKeep}
use Rattle.cell_changes.specs.Growing.{PicksCells}

-- PICKED OF SOME IDENTIFIERS, the changes are the difference of two sides that are the same at all others
pub differences_are : (f g : ℕ → Cells) (ids : List ℕ) (ts us : Tables) (cs : TableChanges) → IdsRise 0 ids → AllRise ts → AllRise us → length us ≡ length ts → length cs ≡ length ts
    → ((id : ℕ) → f id ≡ cells_at ts id) → ((id : ℕ) → g id ≡ cells_at us id) → ((id : ℕ) → has_id ids id ≡ false → cells_at us id ≡ cells_at ts id)
    → PicksCells f g ids cs → AreDifferences ts us cs
differences_are f g ids [] [] [] rise rt ru lu lc old new same p = tt
differences_are f g ids [] [] (c ∷ cs) rise rt ru lu lc old new same p = absurd (omega (arith, lc))
differences_are f g ids [] (u ∷ us) cs rise rt ru lu lc old new same p = absurd (omega (arith, lu))
differences_are f g ids (t ∷ ts) [] cs rise rt ru lu lc old new same p = absurd (omega (arith, lu))
differences_are f g ids (t ∷ ts) (u ∷ us) [] rise rt ru lu lc old new same p = absurd (omega (arith, lc))
differences_are f g ids (t ∷ ts) (u ∷ us) (c ∷ cs) rise rt ru lu lc old new same p = (
  picks_difference (λ id. first_cell (f id)) (λ id. first_cell (g id)) t u ids c rt.0 ru.0 rise (λ id e. ap first_cell (old id)) (λ id e. ap first_cell (new id))
      (λ id e. ap first_cell (same id e)) p.0,
  differences_are (λ id. other_cells (f id)) (λ id. other_cells (g id)) ids ts us cs rise rt.1 ru.1 (omega (arith, lu)) (omega (arith, lc))
      (λ id. ap other_cells (old id)) (λ id. ap other_cells (new id)) (λ id e. ap other_cells (same id e)) p.1,
)

-- an identifier that no change names keeps what it has
stays : (P : ℕ → Bool) (ts : Tables) (cs : TableChanges) (id : ℕ) → AllRise ts → EachPass P cs → P id ≡ false → cells_at (changed_tables ts cs) id ≡ cells_at ts id
stays P [] cs id rise pass e = refl
stays P (t ∷ ts) [] id rise pass e = refl
stays P (t ∷ ts) (c ∷ cs) id rise pass e =
    let a : row_of (changed t c) id ≡ row_of t id = changed_at t c id rise.0 ∙ after_other P c id (row_of t id) pass.0 e in
    let b = stays P ts cs id rise.1 pass.1 e in
    cc

module _ (r : RowMeaning) (h : RowHalf r) where
  pub may_cross : (near : TableChanges) (p : PairState) (n : ℕ) → MayChange (rowwise r) near p n → MayCross r near p
  may_cross near p n may = record {
    fit = may.fit;
    rise = all_rise may.hs p.source may.may.sound.pair.source_of;
    rows = λ id. record {
      hs = may.hs;
      ht = may.ht;
      pair = pair_at r h may.hs may.ht p may.may.sound.pair id;
      near_of = cells_well may.hs (changed_tables p.source near) id may.may.near_of;
    };
  }

  -- THE CHANGES OF THE FAR SIDE
  far_is : (near : TableChanges) (p : PairState) (n : ℕ) (cs : TableChanges) → MayChange (rowwise r) near p n → PicksCells (cells_at p.target) (far_cells r near p) (touched near) cs → length cs ≡ length p.target
      → AreDifferences p.target (mapped_changes (rowwise r) near p n).far cs
  far_is near p n cs may picks long =
      let whole : Tables = changed_tables p.source near in
      let far : Tables = ((rowwise r).forward whole p n).far in
      let pair = may.may.sound.pair in
      let well = ((half r h).kept may.hs may.ht whole p n may.may).target_of in
      let many : length far ≡ length p.target = tables_long may.ht far well ∙ sym (tables_long may.ht p.target pair.target_of) in
      differences_are (cells_at p.target) (far_cells r near p) (touched near) p.target far cs (rise_over near [] tt) (all_rise may.ht p.target pair.target_of) (all_rise may.ht far well) many long
      (λ id. refl)
      (λ id. sym (far_at r h may.hs may.ht whole p n pair may.may.near_of id))
      (λ id out. far_at r h may.hs may.ht whole p n pair may.may.near_of id
      ∙ ap (λ (c : Cells). r.forward c (cells_at p.source id) (cells_at p.target id)) (stays (has_id (touched near)) p.source near id (all_rise may.hs p.source pair.source_of) (touched_pass near) out)
      ∙ h.still may.hs may.ht (cells_at p.source id) (cells_at p.target id) (pair_at r h may.hs may.ht p pair id))
      picks

  -- and there is no memory
  pub difference_is : (near : TableChanges) (p : PairState) (n : ℕ) (cs : TableChanges) → MayChange (rowwise r) near p n → PicksCells (cells_at p.target) (far_cells r near p) (touched near) cs → length cs ≡ length p.target
      → IsFarDifference p (mapped_changes (rowwise r) near p n) (record { side = record { tables = cs }; memory = [] })
  difference_is near p n cs may picks long = record {
    side = far_is near p n cs may picks long;
    memory = record { fit = tt; new = λ id. ap (λ pairs. pair_of pairs id) (sym may.may.sound.pair.related.0) };
  }

  pub may_keep : (near far : TableChanges) (p : PairState) → MayChangePair (rowwise r) near far p → MayKeep r near far p
  may_keep near far p may = record {
    near_fit = may.near_fit;
    near_rise = all_rise may.hs p.source may.old.source_of;
    far_fit = may.far_fit;
    far_rise = all_rise may.ht p.target may.old.target_of;
    rows = λ id. record { hs = may.hs; ht = may.ht; pair = pair_at r h may.hs may.ht (changed_pair p near far) may.new id };
  }

  -- THE CHANGES OF THE AUXILIARY TABLES
  pub aux_is : (near far : TableChanges) (p : PairState) (aux : Tables) (cs : TableChanges) → MayChangePair (rowwise r) near far p → aux ≡ (rowwise r).aux_at_source p
      → PicksCells (cells_at aux) (aux_cells r near far p) (touched_both near far) cs → length cs ≡ length aux
      → AreDifferences aux ((rowwise r).aux_at_source (changed_pair p near far)) cs
  aux_is near far p aux cs may is picks long =
      let new : PairState = changed_pair p near far in
      let made : Tables = (rowwise r).aux_at_source new in
      let ids : List ℕ = touched_both near far in
      let many : length made ≡ length aux = sym ((half r h).aux_many may.hs may.ht p new may.old may.new) ∙ sym (ap (λ (ts : Tables). length ts) is) in
      let near_pass : EachPass (has_id ids) near = each_pass near [] (has_id ids) (λ id e. stays_over far (touched near) id e) in
      let far_pass : EachPass (has_id ids) far = each_pass far (touched near) (has_id ids) (λ id e. e) in
      differences_are (cells_at aux) (aux_cells r near far p) ids aux made cs (rise_over far (touched near) (rise_over near [] tt))
      (subst AllRise (sym is) (aux_rise r h may.hs may.ht p may.old)) (aux_rise r h may.hs may.ht new may.new) many long
      (λ id. refl)
      (λ id. sym (aux_at r h may.hs may.ht new may.new id))
      (λ id out.
      let a = stays (has_id ids) p.source near id (all_rise may.hs p.source may.old.source_of) near_pass out in
      let b = stays (has_id ids) p.target far id (all_rise may.ht p.target may.old.target_of) far_pass out in
      aux_at r h may.hs may.ht new may.new id ∙ ap (λ (s : Cells). r.aux_at_source s (cells_at new.target id)) a ∙ ap (λ (t : Cells). r.aux_at_source (cells_at p.source id) t) b
      ∙ sym (aux_at r h may.hs may.ht p may.old id) ∙ ap (λ (ts : Tables). cells_at ts id) (sym is))
      picks

-- ---- from either side

-- the operator on tables, as it is crossed, is the row operator's from that side
pub toward_is : (b : Bool) (r : RowMeaning) → toward b (rowwise r) ≡ rowwise (seen_from (near_side b) r)
toward_is false r = refl
toward_is true r = refl

pub near_is : (b : Bool) (p : PairState) → (ahead b p).source ≡ side_at b p
near_is false p = refl
near_is true p = refl

pub far_side_is : (b : Bool) (p : PairState) → (ahead b p).target ≡ side_at (not b) p
far_side_is false p = refl
far_side_is true p = refl

-- what is mapped at an identifier may be
pub may_rows : (b : Bool) (side : NearSide) (r : RowMeaning) (near : TableChanges) (p : PairState) (id : ℕ) (now old far : Cells) → side ≡ near_side b
    → now ≡ cells_at (changed_tables (side_at b p) near) id → old ≡ cells_at (side_at b p) id → far ≡ cells_at (side_at (not b) p) id
    → MayCross (seen_from (near_side b) r) near (ahead b p) → MayRows (seen_from side r) now old far
may_rows false side r near p id now old far s n o f may = rw (s, n, o, f) (may.rows id)
may_rows true side r near p id now old far s n o f may = rw (s, n, o, f) (may.rows id)

-- what is made of it is the far side's
pub maps_cells : (b : Bool) (side : NearSide) (r : RowMeaning) (near : TableChanges) (p : PairState) (id : ℕ) (now old far kept made : Cells) → side ≡ near_side b
    → now ≡ cells_at (changed_tables (side_at b p) near) id → old ≡ cells_at (side_at b p) id → far ≡ cells_at (side_at (not b) p) id → kept ≡ cells_at (side_at (not b) p) id
    → made ≡ (seen_from side r).forward now old far
    → MapsCells (seen_from (near_side b) r) near (ahead b p) id (record { old = kept; new = made })
maps_cells false side r near p id now old far kept made s n o f k m = (k, cc)
maps_cells true side r near p id now old far kept made s n o f k m = (k, cc)

-- the auxiliary rows of an identifier may be made
pub some_rows : (b : Bool) (side : NearSide) (r : RowMeaning) (near far : TableChanges) (p : PairState) (id : ℕ) (some other : Cells) → side ≡ near_side b
    → some ≡ cells_at (changed_tables (side_at b p) near) id → other ≡ cells_at (changed_tables (side_at (not b) p) far) id
    → MayKeep (seen_from (near_side b) r) near far (ahead b p) → SomeRows (seen_from side r) some other
some_rows false side r near far p id some other s n f may = rw (s, n, f) (may.rows id)
some_rows true side r near far p id some other s n f may = rw (s, n, f) (may.rows id)

pub keeps_cells : (b : Bool) (side : NearSide) (r : RowMeaning) (near far : TableChanges) (p : PairState) (id : ℕ) (some other made : Cells) → side ≡ near_side b
    → some ≡ cells_at (changed_tables (side_at b p) near) id → other ≡ cells_at (changed_tables (side_at (not b) p) far) id
    → made ≡ (seen_from side r).aux_at_source some other → made ≡ aux_cells (seen_from (near_side b) r) near far (ahead b p) id
keeps_cells false side r near far p id some other made s n f m = cc
keeps_cells true side r near far p id some other made s n f m = cc

-- THE ANSWER of changes by cells
pub answered : (b : Bool) (r : RowMeaning) (laws : RowLaws r) (near : TableChanges) (p : PairState) (counter : CounterState) (cs : TableChanges) (pairs : List PairChange) → MayChange (toward b (rowwise r)) near p counter.next
    → PicksCells (cells_at p.target) (far_cells (seen_from (near_side b) r) near p) (touched near) cs → length cs ≡ length p.target → pairs ≡ []
    → IsChangedTo p (mapped_changes (toward b (rowwise r)) near p counter.next) counter counter (Ok (record { side = record { tables = cs }; memory = pairs }))
answered false r laws near p counter cs pairs may picks long none = (
  omega arith,
  subst (λ (ps : List PairChange). IsFarDifference p (mapped_changes (rowwise r) near p counter.next) (record { side = record { tables = cs }; memory = ps })) (sym none) (difference_is r laws.0 near p counter.next cs may picks long),
  refl,
)
answered true r laws near p counter cs pairs may picks long none = (
  omega arith,
  subst (λ (ps : List PairChange). IsFarDifference p (mapped_changes (rowwise (flip_row r)) near p counter.next) (record { side = record { tables = cs }; memory = ps })) (sym none) (difference_is (flip_row r) laws.1 near p counter.next cs may picks long),
  refl,
)

-- and of auxiliary tables by cells
pub differ : (b : Bool) (r : RowMeaning) (laws : RowLaws r) (near far : TableChanges) (p : PairState) (aux : Tables) (cs : TableChanges) → MayChangePair (toward b (rowwise r)) near far p → aux ≡ (toward b (rowwise r)).aux_at_source p
    → PicksCells (cells_at aux) (aux_cells (seen_from (near_side b) r) near far p) (touched_both near far) cs → length cs ≡ length aux
    → AreDifferences aux ((toward b (rowwise r)).aux_at_source (changed_pair p near far)) cs
differ false r laws near far p aux cs may is picks long = aux_is r laws.0 near far p aux cs may is picks long
differ true r laws near far p aux cs may is picks long = aux_is (flip_row r) laws.1 near far p aux cs may is picks long
