-- Tables made from what they are to have at each identifier.
use Rattle.std.proofs.Common.{◌≡◌, ℕ, zero, suc, ◌+◌, ◌≤◌, ◌==◌, List, [], ◌∷◌, Bool, true, false, cond, length, Option, Some, None, IsSome, refl, ap, sym, ◌∙◌, subst, arith}
use Rattle.std.proofs.lemmas.Bool.{false≢true, eqb-true}
use mathlib.Core.Logic.{inl, inr}
use Rattle.par_base.specs.declared.value.Value.{Value}
use Rattle.row_store.specs.Rows.{Rows, RiseFrom, row_of}
use Rattle.row_store.specs.inner.FoundRows.{rise_more}
use Rattle.op_law.specs.Tables.{Tables, Heading, RowsWide, AreTablesOf, empty_tables}
use Rattle.op_law.specs.Sound.{IsBelow, RowsSound, TablesSound, HasRow}
use Rattle.op_rows.specs.Cells.{Cells, cells_at, nones, first_cell, other_cells, with_row, table_from, tables_from, CellWide, AreCellsOf, CellSound, CellsSound}
use Rattle.op_rows.specs.inner.CellLemmas.{has_id, IdsRise, IdsBelow, AllRise}

from_head : (x : ℕ) (xs : List ℕ) (f : ℕ → Option (List Value)) (id : ℕ) (o : Option (List Value)) → f x ≡ o → row_of (table_from xs f) id ≡ cond (has_id xs id) (f id) None → row_of (with_row x o (table_from xs f)) id ≡ cond (cond (x == id) true (has_id xs id)) (f id) None
from_head x xs f id None e rest =
    let M : Bool → Type 0 = λ b. (x == id) ≡ b → row_of (table_from xs f) id ≡ cond (cond b true (has_id xs id)) (f id) None in
    let both : M (x == id) = elim (x == id) as (λ b. M b) [
      | true ↦ λ h.
          let same : None ≡ f id = sym e ∙ ap f (eqb-true x id h) in
          let N : Bool → Type 0 = λ b. cond b (f id) None ≡ f id in
          let out : N (has_id xs id) = elim (has_id xs id) as (λ b. N b) [ true ↦ refl | false ↦ same ] in
          rest ∙ out
      | false ↦ λ h. rest
    ] in
    both refl
from_head x xs f id (Some row) e rest =
    let M : Bool → Type 0 = λ b. (x == id) ≡ b → cond b (Some row) (row_of (table_from xs f) id) ≡ cond (cond b true (has_id xs id)) (f id) None in
    let both : M (x == id) = elim (x == id) as (λ b. M b) [
      | true ↦ λ h. sym e ∙ ap f (eqb-true x id h)
      | false ↦ λ h. rest
    ] in
    both refl

pub row_from : (ids : List ℕ) (f : ℕ → Option (List Value)) (id : ℕ) → row_of (table_from ids f) id ≡ cond (has_id ids id) (f id) None
row_from [] f id = refl
row_from (x ∷ xs) f id = from_head x xs f id (f x) refl (row_from xs f id)

rise_head : (n x : ℕ) (o : Option (List Value)) (rows : Rows) → n ≤ x → RiseFrom (x + 1) rows → RiseFrom n (with_row x o rows)
rise_head n x None rows h rise = rise_more n (x + 1) rows (omega arith) rise
rise_head n x (Some row) rows h rise = (h, rise)

pub rise_from : (n : ℕ) (ids : List ℕ) (f : ℕ → Option (List Value)) → IdsRise n ids → RiseFrom n (table_from ids f)
rise_from n [] f h = tt
rise_from n (x ∷ xs) f h = rise_head n x (f x) (table_from xs f) h.0 (rise_from (x + 1) xs f h.1)

wide_head : (w x : ℕ) (o : Option (List Value)) (rows : Rows) → CellWide w o → RowsWide w rows → RowsWide w (with_row x o rows)
wide_head w x None rows h wide = wide
wide_head w x (Some row) rows h wide = (h, wide)

wide_from : (w : ℕ) (ids : List ℕ) (f : ℕ → Option (List Value)) → ((id : ℕ) → CellWide w (f id)) → RowsWide w (table_from ids f)
wide_from w [] f h = tt
wide_from w (x ∷ xs) f h = wide_head w x (f x) (table_from xs f) (h x) (wide_from w xs f h)

below_head : (n x : ℕ) (o : Option (List Value)) (rows : Rows) → IsBelow n x → CellSound n o → RowsSound n rows → RowsSound n (with_row x o rows)
below_head n x None rows b h k = k
below_head n x (Some row) rows b h k = ((b, h), k)

below_from : (n : ℕ) (ids : List ℕ) (f : ℕ → Option (List Value)) → IdsBelow n ids → ((id : ℕ) → CellSound n (f id)) → RowsSound n (table_from ids f)
below_from n [] f b h = tt
below_from n (x ∷ xs) f b h = below_head n x (f x) (table_from xs f) b.0 (h x) (below_from n xs f b.1 h)

-- cells: heads and tails
first_well : (w : Heading) (ws : List Heading) (cs : Cells) → AreCellsOf (w ∷ ws) cs → CellWide (length w.columns) (first_cell cs)
first_well w ws [] h = absurd h
first_well w ws (c ∷ cs) h = h.0

others_well : (w : Heading) (ws : List Heading) (cs : Cells) → AreCellsOf (w ∷ ws) cs → AreCellsOf ws (other_cells cs)
others_well w ws [] h = absurd h
others_well w ws (c ∷ cs) h = h.1

first_below : (n : ℕ) (cs : Cells) → CellsSound n cs → CellSound n (first_cell cs)
first_below n [] h = tt
first_below n (c ∷ cs) h = h.0

others_below : (n : ℕ) (cs : Cells) → CellsSound n cs → CellsSound n (other_cells cs)
others_below n [] h = tt
others_below n (c ∷ cs) h = h.1

pub cells_long : (ws : List Heading) (cs : Cells) → AreCellsOf ws cs → length cs ≡ length ws
cells_long [] [] h = refl
cells_long [] (c ∷ cs) h = absurd h
cells_long (w ∷ ws) [] h = absurd h
cells_long (w ∷ ws) (c ∷ cs) h = ap suc (cells_long ws cs h.1)

-- the made tables have what they were made from
put_together : (k : ℕ) (cs : Cells) → length cs ≡ suc k → first_cell cs ∷ other_cells cs ≡ cs
put_together k [] h = absurd (omega arith)
put_together k (c ∷ cs) h = refl

others_long : (k : ℕ) (cs : Cells) → length cs ≡ suc k → length (other_cells cs) ≡ k
others_long k [] h = absurd (omega arith)
others_long k (c ∷ cs) h = omega arith

none_long : (cs : Cells) → length cs ≡ zero → [] ≡ cs
none_long [] h = refl
none_long (c ∷ cs) h = absurd (omega arith)

pub at_from : (k : ℕ) (ids : List ℕ) (f : ℕ → Cells) (id : ℕ) → length (f id) ≡ k → (has_id ids id ≡ false → f id ≡ nones k) → cells_at (tables_from k ids f) id ≡ f id
at_from zero ids f id long out = none_long (f id) long
at_from (suc k) ids f id long out =
    let rest : cells_at (tables_from k ids (λ id. other_cells (f id))) id ≡ other_cells (f id) = at_from k ids (λ id. other_cells (f id)) id (others_long k (f id) long) (λ h. ap other_cells (out h)) in
    let M : Bool → Type 0 = λ b. has_id ids id ≡ b → cond b (first_cell (f id)) None ≡ first_cell (f id) in
    let first : M (has_id ids id) = elim (has_id ids id) as (λ b. M b) [ true ↦ λ h. refl | false ↦ λ h. sym (ap first_cell (out h)) ] in
    let head = row_from ids (λ id. first_cell (f id)) id ∙ first refl in
    ap (λ (c : Option (List Value)). c ∷ cells_at (tables_from k ids (λ id. other_cells (f id))) id) head ∙ ap (λ (cs : Cells). first_cell (f id) ∷ cs) rest ∙ put_together k (f id) long

pub all_rise_from : (k : ℕ) (ids : List ℕ) (f : ℕ → Cells) → IdsRise 0 ids → AllRise (tables_from k ids f)
all_rise_from zero ids f h = tt
all_rise_from (suc k) ids f h = (rise_from 0 ids (λ id. first_cell (f id)) h, all_rise_from k ids (λ id. other_cells (f id)) h)

pub well_from : (k : ℕ) (ws : List Heading) (ids : List ℕ) (f : ℕ → Cells) → length ws ≡ k → IdsRise 0 ids → ((id : ℕ) → AreCellsOf ws (f id)) → AreTablesOf ws (tables_from k ids f)
well_from zero [] ids f e rise h = tt
well_from (suc k) [] ids f e rise h = absurd (omega arith)
well_from zero (w ∷ ws) ids f e rise h = absurd (omega arith)
well_from (suc k) (w ∷ ws) ids f e rise h = (
  (rise_from 0 ids (λ id. first_cell (f id)) rise, wide_from (length w.columns) ids (λ id. first_cell (f id)) (λ id. first_well w ws (f id) (h id))),
  well_from k ws ids (λ id. other_cells (f id)) (omega arith) rise (λ id. others_well w ws (f id) (h id)),
)

pub all_below_from : (n k : ℕ) (ids : List ℕ) (f : ℕ → Cells) → IdsBelow n ids → ((id : ℕ) → CellsSound n (f id)) → TablesSound n (tables_from k ids f)
all_below_from n zero ids f b h = tt
all_below_from n (suc k) ids f b h = (
  below_from n ids (λ id. first_cell (f id)) b (λ id. first_below n (f id) (h id)),
  all_below_from n k ids (λ id. other_cells (f id)) b (λ id. others_below n (f id) (h id)),
)

-- what tables have at an identifier is as the tables are
pub all_rise : (ws : List Heading) (ts : Tables) → AreTablesOf ws ts → AllRise ts
all_rise [] [] h = tt
all_rise [] (t ∷ ts) h = absurd h
all_rise (w ∷ ws) [] h = absurd h
all_rise (w ∷ ws) (t ∷ ts) h = (h.0.0, all_rise ws ts h.1)

pub tables_long : (ws : List Heading) (ts : Tables) → AreTablesOf ws ts → length ts ≡ length ws
tables_long [] [] h = refl
tables_long [] (t ∷ ts) h = absurd h
tables_long (w ∷ ws) [] h = absurd h
tables_long (w ∷ ws) (t ∷ ts) h = ap suc (tables_long ws ts h.1)

row_well : (w : ℕ) (rows : Rows) (id : ℕ) → RowsWide w rows → CellWide w (row_of rows id)
row_well w [] id h = tt
row_well w (r ∷ rs) id h =
    let M : Bool → Type 0 = λ b. CellWide w (cond b (Some r.1) (row_of rs id)) in
    elim (r.0 == id) as (λ b. M b) [ true ↦ h.0 | false ↦ row_well w rs id h.1 ]

pub cells_well : (ws : List Heading) (ts : Tables) (id : ℕ) → AreTablesOf ws ts → AreCellsOf ws (cells_at ts id)
cells_well [] [] id h = tt
cells_well [] (t ∷ ts) id h = absurd h
cells_well (w ∷ ws) [] id h = absurd h
cells_well (w ∷ ws) (t ∷ ts) id h = (row_well (length w.columns) t id h.0.1, cells_well ws ts id h.1)

row_below : (n : ℕ) (rows : Rows) (id : ℕ) → RowsSound n rows → CellSound n (row_of rows id)
row_below n [] id h = tt
row_below n (r ∷ rs) id h =
    let M : Bool → Type 0 = λ b. CellSound n (cond b (Some r.1) (row_of rs id)) in
    elim (r.0 == id) as (λ b. M b) [ true ↦ h.0.1 | false ↦ row_below n rs id h.1 ]

pub cells_below : (n : ℕ) (ts : Tables) (id : ℕ) → TablesSound n ts → CellsSound n (cells_at ts id)
cells_below n [] id h = tt
cells_below n (t ∷ ts) id h = (row_below n t id h.0, cells_below n ts id h.1)

pub nones_well : (ws : List Heading) (k : ℕ) → length ws ≡ k → AreCellsOf ws (nones k)
nones_well [] zero e = tt
nones_well [] (suc k) e = absurd (omega arith)
nones_well (w ∷ ws) zero e = absurd (omega arith)
nones_well (w ∷ ws) (suc k) e = (tt, nones_well ws k (omega arith))

pub nones_long : (k : ℕ) → length (nones k) ≡ k
nones_long zero = refl
nones_long (suc k) = ap suc (nones_long k)

pub empty_at : (ws : List Heading) (id : ℕ) → cells_at (empty_tables ws) id ≡ nones (length ws)
empty_at [] id = refl
empty_at (w ∷ ws) id = ap (λ (cs : Cells). None ∷ cs) (empty_at ws id)

has_cond : (b : Bool) (o : Option (List Value)) → IsSome (cond b o None) → b ≡ true
has_cond true o h = refl
has_cond false o h = absurd (false≢true h)

-- a row of a made table has one of the identifiers
pub has_from : (k : ℕ) (ids : List ℕ) (f : ℕ → Cells) (id : ℕ) → HasRow id (tables_from k ids f) → has_id ids id ≡ true
has_from zero ids f id h = absurd h
has_from (suc k) ids f id (inl own) = has_cond (has_id ids id) (first_cell (f id)) (subst (λ (o : Option (List Value)). IsSome o) (row_from ids (λ id. first_cell (f id)) id) own)
has_from (suc k) ids f id (inr other) = has_from k ids (λ id. other_cells (f id)) id other
