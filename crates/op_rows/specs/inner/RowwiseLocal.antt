-- Restricting all that is given to some identifiers restricts the results.
use Rattle.std.proofs.Common.{◌≡◌, ℕ, zero, suc, List, [], ◌∷◌, Bool, true, false, cond, length, refl, ap, sym, ◌∙◌}
use Rattle.row_store.specs.Rows.{Rows}
use Rattle.op_law.specs.Tables.{Tables, Heading, RowsWide, AllRise, AreTablesOf}
use Rattle.op_law.specs.Meaning.{PairState}
use Rattle.op_law.specs.Premises.{IsPair}
use Rattle.op_law.proofs.OnlyLaws.{by_test, row_in, row_out, rise_only}
use Rattle.op_law.specs.Local.{rows_only, only, pair_only, HalfLocal, IsLocal, PairAmong}
use Rattle.op_rows.specs.Cells.{Cells, cells_at, nones, tables_from}
use Rattle.op_rows.specs.inner.CellLemmas.{ext_all}
use Rattle.op_rows.specs.inner.Tabulated.{all_rise_from, tables_long}
use Rattle.op_rows.specs.RowMeaning.{RowMeaning, flip_row, rowwise, RowHalf, RowLaws}
use Rattle.op_rows.specs.inner.RowwiseAt.{none_fwd, far_at, far_rise, aux_at, aux_rise, recovers}

pub cells_in : (P : ℕ → Bool) (ts : Tables) (id : ℕ) → P id ≡ true → cells_at (only P ts) id ≡ cells_at ts id
cells_in P [] id h = refl
cells_in P (t ∷ ts) id h = let a = row_in P t id h in let b = cells_in P ts id h in cc

pub cells_out : (P : ℕ → Bool) (ts : Tables) (id : ℕ) → P id ≡ false → cells_at (only P ts) id ≡ nones (length ts)
cells_out P [] id h = refl
cells_out P (t ∷ ts) id h = let a = row_out P t id h in let b = cells_out P ts id h in cc

wide_only : (P : ℕ → Bool) (w : ℕ) (rows : Rows) → RowsWide w rows → RowsWide w (rows_only P rows)
wide_only P w [] h = tt
wide_only P w (r ∷ rs) h =
    let rest = wide_only P w rs h.1 in
    elim (P r.0) as (λ b. RowsWide w (cond b (r ∷ rows_only P rs) (rows_only P rs))) [ true ↦ (h.0, rest) | false ↦ rest ]

pub well_only : (P : ℕ → Bool) (hs : List Heading) (ts : Tables) → AreTablesOf hs ts → AreTablesOf hs (only P ts)
well_only P [] [] h = tt
well_only P [] (t ∷ ts) h = absurd h
well_only P (w ∷ hs) [] h = absurd h
well_only P (w ∷ hs) (t ∷ ts) h = ((rise_only P 0 t h.0.0, wide_only P (length w.columns) t h.0.1), well_only P hs ts h.1)

all_rise_only : (P : ℕ → Bool) (ts : Tables) → AllRise ts → AllRise (only P ts)
all_rise_only P [] h = tt
all_rise_only P (t ∷ ts) h = (rise_only P 0 t h.0, all_rise_only P ts h.1)

pub made_long : (k : ℕ) (ids : List ℕ) (f : ℕ → Cells) → length (tables_from k ids f) ≡ k
made_long zero ids f = refl
made_long (suc k) ids f = ap suc (made_long k ids _)

module _ (r : RowMeaning) (h : RowHalf r) (P : ℕ → Bool) where
  nothing_at : (hs ht : List Heading) (p : PairState) → IsPair (rowwise r) hs ht p → (id : ℕ) → P id ≡ false → (cells_at (only P p.source) id ≡ nones r.sources) × (cells_at (only P p.target) id ≡ nones r.targets)
  nothing_at hs ht p pair id e =
      let long = h.fits_long hs ht pair.fits in (
        cells_out P p.source id e ∙ ap nones (tables_long hs p.source pair.source_of ∙ long.0),
        cells_out P p.target id e ∙ ap nones (tables_long ht p.target pair.target_of ∙ long.1),
      )

  -- a pair restricted is a pair
  pub pair_stays : (hs ht : List Heading) (p : PairState) → IsPair (rowwise r) hs ht p → IsPair (rowwise r) hs ht (pair_only P p)
  pair_stays hs ht p pair = record {
    fits = pair.fits;
    related = (
      pair.related.0,
      λ id.
          by_test (P id)
          (λ e. let a = cells_in P p.source id e in let b = cells_in P p.target id e in rw (a, b) (pair.related.1 id))
          (λ e. let n = nothing_at hs ht p pair id e in rw (n.0, n.1) h.empty),
    );
    source_of = well_only P hs p.source pair.source_of;
    target_of = well_only P ht p.target pair.target_of;
  }

  -- tables that are a pair at every identifier are one
  pub joined_at : (hs ht : List Heading) (p : PairState) → p.memory ≡ [] → AreTablesOf hs p.source → AreTablesOf ht p.target → ((id : ℕ) → PairAmong (rowwise r) hs ht p id) → IsPair (rowwise r) hs ht p
  joined_at hs ht p none source target parts = record {
    fits = (parts 0).pair.fits;
    related = (
      none,
      λ id.
          let part = parts id in
          let a = cells_in part.test p.source id part.among in
          let b = cells_in part.test p.target id part.among in
          rw (a, b) at (part.pair.related.1 id),
    );
    source_of = source;
    target_of = target;
  }

  -- the mapping of what is restricted
  pub fwd_only : (hs ht : List Heading) (near : Tables) (old : PairState) (n : ℕ) → IsPair (rowwise r) hs ht old → AreTablesOf hs near → ((rowwise r).forward (only P near) (pair_only P old) n).far ≡ only P ((rowwise r).forward near old n).far
  fwd_only hs ht near old n pair well =
      let small = pair_stays hs ht old pair in
      let small_well = well_only P hs near well in
      let long = h.fits_long hs ht pair.fits in
      ext_all _ _ (all_rise_from r.targets _ _ (far_rise r h hs ht (only P near) (pair_only P old) small small_well))
      (all_rise_only P _ (all_rise_from r.targets _ _ (far_rise r h hs ht near old pair well)))
      (λ id.
      let here = far_at r h hs ht (only P near) (pair_only P old) n small small_well id in
      by_test (P id)
      (λ e.
      let a = cells_in P near id e in
      let b = cells_in P old.source id e in
      let c = cells_in P old.target id e in
      let big = far_at r h hs ht near old n pair well id in
      let inside = cells_in P ((rowwise r).forward near old n).far id e in
      rw (a, b, c) at here ∙ sym big ∙ sym inside)
      (λ e.
      let a : cells_at (only P near) id ≡ nones r.sources = cells_out P near id e ∙ ap nones (tables_long hs near well ∙ long.0) in
      let m = nothing_at hs ht old pair id e in
      let outside = cells_out P ((rowwise r).forward near old n).far id e in
      rw (a, m.0, m.1) at here ∙ none_fwd r h hs ht pair.fits ∙ sym (ap nones (made_long r.targets _ _)) ∙ sym outside))

  -- the auxiliary tables of what is restricted
  pub aux_only : (hs ht : List Heading) (p : PairState) → IsPair (rowwise r) hs ht p → (rowwise r).aux_at_source (pair_only P p) ≡ only P ((rowwise r).aux_at_source p)
  aux_only hs ht p pair =
      let small = pair_stays hs ht p pair in
      ext_all _ _ (aux_rise r h hs ht (pair_only P p) small) (all_rise_only P _ (aux_rise r h hs ht p pair))
      (λ id.
      let here = aux_at r h hs ht (pair_only P p) small id in
      by_test (P id)
      (λ e.
      let b = cells_in P p.source id e in
      let c = cells_in P p.target id e in
      rw (b, c) at here ∙ sym (aux_at r h hs ht p pair id) ∙ sym (cells_in P ((rowwise r).aux_at_source p) id e))
      (λ e.
      let m = nothing_at hs ht p pair id e in
      rw (m.0, m.1) at here ∙ h.aux_nothing ∙ sym (ap nones (made_long r.source_aux _ _)) ∙ sym (cells_out P ((rowwise r).aux_at_source p) id e)))

  -- what is read back of what is restricted
  pub read_only : (hs ht : List Heading) (p : PairState) → r.reads_target ≡ true → IsPair (rowwise r) hs ht p → (rowwise r).read_target (only P p.source) (only P ((rowwise r).aux_at_source p)) p.memory ≡ only P ((rowwise r).read_target p.source ((rowwise r).aux_at_source p) p.memory)
  read_only hs ht p reads pair =
      ap (λ (aux : Tables). (rowwise r).read_target (only P p.source) aux p.memory) (sym (aux_only hs ht p pair))
      ∙ recovers r h hs ht (pair_only P p) reads (pair_stays hs ht p pair)
      ∙ ap (only P) (sym (recovers r h hs ht p reads pair))

-- the law of one direction
pub half_local : (r : RowMeaning) → RowHalf r → HalfLocal (rowwise r)
half_local r h = record {
  no_memory = λ hs ht p pair. pair.related.0;
  related = λ test hs ht p pair. pair_stays r h test hs ht p pair;
  joined = λ hs ht p none source target parts. joined_at r h (λ (id : ℕ). true) hs ht p none source target parts;
  draws_none = λ hs ht near old n may. refl;
  forward = λ test hs ht near old n may. fwd_only r h test hs ht near old n may.sound.pair may.near_of;
  aux = λ test hs ht p pair. aux_only r h test hs ht p pair;
  read = λ test hs ht p reads pair. read_only r h test hs ht p reads pair;
}

pub rowwise_local : (r : RowMeaning) → RowLaws r → IsLocal (rowwise r)
rowwise_local r laws = (half_local r laws.0, half_local (flip_row r) laws.1)
