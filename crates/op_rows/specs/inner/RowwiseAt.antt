-- What the operator on tables has at each identifier.
use Rattle.std.proofs.Common.{◌≡◌, ℕ, ◌≤◌, ◌⊎◌, List, [], true, false, length, ap, sym, ◌∙◌}
use Rattle.std.proofs.lemmas.Bool.{false≢true}
use mathlib.Core.Logic.{inl, inr}
use Rattle.op_law.specs.Tables.{Tables, Heading, AreTablesOf}
use Rattle.op_law.specs.Sound.{HasRow}
use Rattle.op_law.specs.Identifiers.{ids_over}
use Rattle.op_law.specs.Meaning.{PairState}
use Rattle.op_law.specs.Premises.{IsPair, MayMap}
use Rattle.op_law.specs.Laws.{InPair}
use Rattle.op_law.proofs.IdentifierLaws.{has_over}
use Rattle.op_rows.specs.Cells.{Cells, cells_at, nones, AreCellsOf}
use Rattle.op_rows.specs.RowMeaning.{RowMeaning, flip_row, rowwise, RowPair, MayRow, RowHalf, RowLaws}
use Rattle.op_rows.specs.AtEach.{HalfGivesAtEach, GivesAtEach}
use Rattle.op_rows.specs.inner.CellLemmas.{ext_all, rise_ids, none_at, has_id, IdsRise, AllRise}
use Rattle.op_rows.specs.inner.Tabulated.{at_from, all_rise_from, all_rise, tables_long, cells_well, cells_below, cells_long, nones_well, nones_long, has_from}

module _ (r : RowMeaning) (h : RowHalf r) where
  -- the pair at one identifier
  pub pair_at : (hs ht : List Heading) (p : PairState) → IsPair (rowwise r) hs ht p → (id : ℕ) → RowPair r hs ht (cells_at p.source id) (cells_at p.target id)
  pair_at hs ht p is id = record {
    fits = is.fits;
    related = is.related.1 id;
    source_of = cells_well hs p.source id is.source_of;
    target_of = cells_well ht p.target id is.target_of;
  }

  pub may_at : (hs ht : List Heading) (near : Tables) (old : PairState) (n : ℕ) → MayMap (rowwise r) hs ht near old n → (id : ℕ) → MayRow r hs ht (cells_at near id) (cells_at old.source id) (cells_at old.target id) n
  may_at hs ht near old n may id = record {
    pair = pair_at hs ht old may.sound.pair id;
    closed = may.closed;
    source_sound = cells_below n old.source id may.sound.source;
    target_sound = cells_below n old.target id may.sound.target;
    near_of = cells_well hs near id may.near_of;
    near_sound = cells_below n near id may.near_sound;
  }

  -- nothing at one identifier is a pair
  pub none_pair : (hs ht : List Heading) → r.Fits hs ht → RowPair r hs ht (nones r.sources) (nones r.targets)
  none_pair hs ht fits = record {
    fits = fits;
    related = h.empty;
    source_of = nones_well hs r.sources (h.fits_long hs ht fits).0;
    target_of = nones_well ht r.targets (h.fits_long hs ht fits).1;
  }

  pub none_fwd : (hs ht : List Heading) → r.Fits hs ht → r.forward (nones r.sources) (nones r.sources) (nones r.targets) ≡ nones r.targets
  none_fwd hs ht fits = h.still hs ht (nones r.sources) (nones r.targets) (none_pair hs ht fits)

  none_get : (hs ht : List Heading) → r.reads_target ≡ true → r.Fits hs ht → r.read_target (nones r.sources) (nones r.source_aux) ≡ nones r.targets
  none_get hs ht reads fits =
      ap (λ (aux : Cells). r.read_target (nones r.sources) aux) (sym h.aux_nothing) ∙ h.recovered hs ht (nones r.sources) (nones r.targets) reads (none_pair hs ht fits)

  -- what has no row anywhere, with its number of tables
  none_here : (hs : List Heading) (k : ℕ) (ts : Tables) (ids : List ℕ) (id : ℕ) → length hs ≡ k → AreTablesOf hs ts → has_id (ids_over ts ids) id ≡ false → (cells_at ts id ≡ nones k) × (has_id ids id ≡ false)
  none_here hs k ts ids id e well out =
      let n = none_at ts ids id out in
      (n.0 ∙ ap nones (tables_long hs ts well ∙ e), n.1)

  pub far_well : (hs ht : List Heading) (near : Tables) (old : PairState) → IsPair (rowwise r) hs ht old → AreTablesOf hs near → (id : ℕ) → AreCellsOf ht (r.forward (cells_at near id) (cells_at old.source id) (cells_at old.target id))
  far_well hs ht near old pair well id = h.wide hs ht _ _ _ (pair_at hs ht old pair id) (cells_well hs near id well)

  -- what the new far side has at an identifier
  pub far_at : (hs ht : List Heading) (near : Tables) (old : PairState) (n : ℕ) → IsPair (rowwise r) hs ht old → AreTablesOf hs near → (id : ℕ) → cells_at ((rowwise r).forward near old n).far id ≡ r.forward (cells_at near id) (cells_at old.source id) (cells_at old.target id)
  far_at hs ht near old n pair well id =
      let long = h.fits_long hs ht pair.fits in
      at_from r.targets (ids_over near (ids_over old.source (ids_over old.target []))) (λ id. r.forward (cells_at near id) (cells_at old.source id) (cells_at old.target id)) id
      (cells_long ht _ (far_well hs ht near old pair well id) ∙ long.1)
      (λ out.
      let a = none_here hs r.sources near _ id long.0 well out in
      let b = none_here hs r.sources old.source _ id long.0 pair.source_of a.1 in
      let c = none_here ht r.targets old.target _ id long.1 pair.target_of b.1 in
      rw (a.0, b.0, c.0) (none_fwd hs ht pair.fits))

  pub far_rise : (hs ht : List Heading) (near : Tables) (old : PairState) → IsPair (rowwise r) hs ht old → AreTablesOf hs near → IdsRise 0 (ids_over near (ids_over old.source (ids_over old.target [])))
  far_rise hs ht near old pair well =
      rise_ids near _ (all_rise hs near well) (rise_ids old.source _ (all_rise hs old.source pair.source_of) (rise_ids old.target _ (all_rise ht old.target pair.target_of) tt))

  -- what the auxiliary tables have at an identifier
  pub aux_at : (hs ht : List Heading) (p : PairState) → IsPair (rowwise r) hs ht p → (id : ℕ) → cells_at ((rowwise r).aux_at_source p) id ≡ r.aux_at_source (cells_at p.source id) (cells_at p.target id)
  aux_at hs ht p pair id =
      let long = h.fits_long hs ht pair.fits in
      at_from r.source_aux (ids_over p.source (ids_over p.target [])) (λ id. r.aux_at_source (cells_at p.source id) (cells_at p.target id)) id
      (h.aux_long hs ht _ _ (pair_at hs ht p pair id))
      (λ out.
      let b = none_here hs r.sources p.source _ id long.0 pair.source_of out in
      let c = none_here ht r.targets p.target _ id long.1 pair.target_of b.1 in
      rw (b.0, c.0) h.aux_nothing)

  pub aux_rise : (hs ht : List Heading) (p : PairState) → IsPair (rowwise r) hs ht p → AllRise ((rowwise r).aux_at_source p)
  aux_rise hs ht p pair = all_rise_from r.source_aux _ _ (rise_ids p.source _ (all_rise hs p.source pair.source_of) (rise_ids p.target _ (all_rise ht p.target pair.target_of) tt))

  -- the target at an identifier, from the source and the auxiliary rows there
  target_at : (hs ht : List Heading) (p : PairState) → r.reads_target ≡ true → IsPair (rowwise r) hs ht p → (id : ℕ) → r.read_target (cells_at p.source id) (cells_at ((rowwise r).aux_at_source p) id) ≡ cells_at p.target id
  target_at hs ht p reads pair id = ap (λ (a : Cells). r.read_target (cells_at p.source id) a) (aux_at hs ht p pair id) ∙ h.recovered hs ht _ _ reads (pair_at hs ht p pair id)

  -- what is read back has at an identifier what is read back there
  pub back_at : (hs ht : List Heading) (p : PairState) → r.reads_target ≡ true → IsPair (rowwise r) hs ht p → (id : ℕ) → cells_at ((rowwise r).read_target p.source ((rowwise r).aux_at_source p) p.memory) id ≡ r.read_target (cells_at p.source id) (cells_at ((rowwise r).aux_at_source p) id)
  back_at hs ht p reads pair id =
      let aux = (rowwise r).aux_at_source p in
      let long = h.fits_long hs ht pair.fits in
      let same = target_at hs ht p reads pair id in
      at_from r.targets (ids_over p.source (ids_over aux [])) (λ id. r.read_target (cells_at p.source id) (cells_at aux id)) id
      (ap length same ∙ cells_long ht _ (cells_well ht p.target id pair.target_of) ∙ long.1)
      (λ out.
      let b = none_here hs r.sources p.source _ id long.0 pair.source_of out in
      let c = (none_at aux [] id b.1).0 in
      let k : length aux ≡ r.source_aux = sym (nones_long (length aux)) ∙ sym (ap length c) ∙ ap length (aux_at hs ht p pair id) ∙ h.aux_long hs ht _ _ (pair_at hs ht p pair id) in
      let d : cells_at aux id ≡ nones r.source_aux = c ∙ ap nones k in
      rw (b.0, d) (none_get hs ht reads pair.fits))

  -- a row that the mapping gives is at an identifier that the near side or the old pair has
  pub drawn_none : (near : Tables) (old : PairState) (n : ℕ) → (id : ℕ) → HasRow id ((rowwise r).forward near old n).far → HasRow id near ⊎ (InPair id old ⊎ (n ≤ id))
  drawn_none near old n id has =
      let listed = has_from r.targets (ids_over near (ids_over old.source (ids_over old.target []))) (λ id. r.forward (cells_at near id) (cells_at old.source id) (cells_at old.target id)) id has in
      elim (has_over near (ids_over old.source (ids_over old.target [])) id listed) [
        | inl here ↦ inl here
        | inr rest ↦ elim (has_over old.source (ids_over old.target []) id rest) [
          | inl own ↦ inr (inl (inl own))
          | inr last ↦ elim (has_over old.target [] id last) [ inl own ↦ inr (inl (inr own)) | inr none ↦ absurd (false≢true none) ]
        ]
      ]

  -- what is read back is the target
  pub recovers : (hs ht : List Heading) (p : PairState) → r.reads_target ≡ true → IsPair (rowwise r) hs ht p → (rowwise r).read_target p.source ((rowwise r).aux_at_source p) p.memory ≡ p.target
  recovers hs ht p reads pair =
      ext_all _ p.target (all_rise_from r.targets _ _ (rise_ids p.source _ (all_rise hs p.source pair.source_of) (rise_ids ((rowwise r).aux_at_source p) [] (aux_rise hs ht p pair) tt)))
      (all_rise ht p.target pair.target_of) (λ id. back_at hs ht p reads pair id ∙ target_at hs ht p reads pair id)

  -- at each identifier it gives what the row operator gives there
  pub half_at_each : HalfGivesAtEach r
  half_at_each = record { far = far_at; aux = aux_at; back = back_at }

pub at_each : (r : RowMeaning) → RowLaws r → GivesAtEach r
at_each r laws = (half_at_each r laws.0, half_at_each (flip_row r) laws.1)
