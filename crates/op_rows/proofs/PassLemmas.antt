-- Tables that grow behind, identifier by identifier.
use Rattle.std.proofs.Common.{◌≡◌, ℕ, zero, suc, ◌+◌, ◌<◌, ◌≤◌, ◌==◌, List, [], ◌∷◌, ◌++◌, Bool, true, false, if◌then◌else◌, length, take, drop, get_or, set, Option, Some, None, refl, ap, sym, ◌∙◌, subst, arith}
use Rattle.std.proofs.lemmas.Bool.{eqb-true}
use Rattle.par_base.specs.declared.value.Value.{Value}
use Rattle.row_store.specs.Rows.{Rows, RiseFrom, AreBelow}
use Rattle.row_store.specs.States.{TableState}
use Rattle.op_law.specs.Tables.{Tables, contents}
use Rattle.op_law.specs.Identifiers.{ids_in, ids_over}
use Rattle.op_rows.specs.Cells.{Cells, cells_at, first_cell, other_cells, with_row, table_from, tables_from}
use Rattle.op_rows.specs.inner.CellLemmas.{IdsRise, AllRise, has_id}
use Rattle.op_rows.specs.RowMeaning.{RowMeaning}
use Rattle.op_rows.specs.RowCalls.{AdmitsRows}
use Rattle.op_rows.specs.inner.Passes.{AllBelow, PutsCell, without_rows, with_cells, read_at}

append_none : (rows : Rows) → rows ++ [] ≡ rows
append_none [] = refl
append_none (r ∷ rs) = ap (λ (rest : Rows). r ∷ rest) (append_none rs)

-- one more table without rows
pub more_without_rows : (k : ℕ) → without_rows k ++ [] ∷ [] ≡ without_rows (k + 1)
more_without_rows zero = refl
more_without_rows (suc k) = let e : suc k + 1 ≡ suc (k + 1) = omega arith in rw e (ap (λ (ts : Tables). [] ∷ ts) (more_without_rows k))

-- no cells change nothing
pub with_no_cells : (ts : Tables) (id : ℕ) → with_cells ts id [] ≡ ts
with_no_cells [] id = refl
with_no_cells (t ∷ ts) id = ap (λ (rows : Rows). rows ∷ with_cells ts id []) (append_none t) ∙ ap (λ (rest : Tables). t ∷ rest) (with_no_cells ts id)

-- a cell that has no table changes nothing
with_extra_cell : (tables : List TableState) (id : ℕ) (cells : Cells) (cell : Option (List Value)) → length tables ≤ length cells → with_cells (contents tables) id cells ≡ with_cells (contents tables) id (cells ++ cell ∷ [])
with_extra_cell [] id cells cell h = refl
with_extra_cell (t ∷ ts) id [] cell h = absurd (omega arith)
with_extra_cell (t ∷ ts) id (c ∷ cs) cell h = ap (λ (rest : Tables). (t.rows ++ with_row id c []) ∷ rest) (with_extra_cell ts id cs cell (omega arith))

-- the last cell behind its table, and then the others behind theirs
with_last_cell : (tables : List TableState) (id : ℕ) (cells : Cells) (cell : Option (List Value)) (t d : TableState) → length cells < length tables → t.rows ≡ (get_or tables (length cells) d).rows ++ with_row id cell [] → with_cells (contents (set tables (length cells) t)) id cells ≡ with_cells (contents tables) id (cells ++ cell ∷ [])
with_last_cell [] id cells cell t d h e = absurd (omega arith)
with_last_cell (u ∷ us) id [] cell t d h e = ap (λ (rows : Rows). rows ∷ with_cells (contents us) id []) (append_none t.rows ∙ e)
with_last_cell (u ∷ us) id (c ∷ cs) cell t d h e = ap (λ (rest : Tables). (u.rows ++ with_row id c []) ∷ rest) (with_last_cell us id cs cell t d (omega arith) e)

pub below_at : (tables : List TableState) (id k : ℕ) (d : TableState) → AllBelow (contents tables) id → k < length tables → AreBelow (get_or tables k d).rows id
below_at [] id k d below h = absurd (omega arith)
below_at (t ∷ ts) id zero d below h = below.0
below_at (t ∷ ts) id (suc k) d below h = below_at ts id k d below.1 (omega arith)

-- a table that is set leaves those before it
set_before : (tables : List TableState) (n k : ℕ) (t d : TableState) → k < n → get_or (set tables n t) k d ≡ get_or tables k d
set_before [] n k t d h = refl
set_before (u ∷ us) zero k t d h = absurd (omega arith)
set_before (u ∷ us) (suc n) zero t d h = refl
set_before (u ∷ us) (suc n) (suc k) t d h = set_before us n k t d (omega arith)

-- the identifiers of one more table
pub ids_next : (tables : List TableState) (i : ℕ) (d : TableState) (ids : List ℕ) → i < length tables → ids_over (contents (take (i + 1) tables)) ids ≡ ids_in (get_or tables i d).rows (ids_over (contents (take i tables)) ids)
ids_next [] i d ids h = absurd (omega arith)
ids_next (t ∷ ts) zero d ids h = refl
ids_next (t ∷ ts) (suc i) d ids h = let e : suc i + 1 ≡ suc (i + 1) = omega arith in rw e (ids_next ts i d (ids_in t.rows ids) (omega arith))

pub rise_next : (tables : List TableState) (i : ℕ) (d : TableState) → i < length tables → AllRise (contents (take i tables)) → RiseFrom 0 (get_or tables i d).rows → AllRise (contents (take (i + 1) tables))
rise_next [] i d h rise own = absurd (omega arith)
rise_next (t ∷ ts) zero d h rise own = (own, tt)
rise_next (t ∷ ts) (suc i) d h rise own = let e : suc i + 1 ≡ suc (i + 1) = omega arith in rw e (rise.0, rise_next ts i d (omega arith) rise.1 own)

-- no identifiers, no rows
pub made_of_none : (k : ℕ) (f : ℕ → Cells) → without_rows k ≡ tables_from k [] f
made_of_none zero f = refl
made_of_none (suc k) f = ap (λ (ts : Tables). [] ∷ ts) (made_of_none k (λ id. other_cells (f id)))

append_with_row : (x : ℕ) (o : Option (List Value)) (xs ys : Rows) → with_row x o (xs ++ ys) ≡ with_row x o xs ++ ys
append_with_row x None xs ys = refl
append_with_row x (Some row) xs ys = refl

table_next : (ids : List ℕ) (i d : ℕ) (f : ℕ → Option (List Value)) → i < length ids → table_from (take (i + 1) ids) f ≡ table_from (take i ids) f ++ with_row (get_or ids i d) (f (get_or ids i d)) []
table_next [] i d f h = absurd (omega arith)
table_next (x ∷ xs) zero d f h = refl
table_next (x ∷ xs) (suc i) d f h =
    let e : suc i + 1 ≡ suc (i + 1) = omega arith in
    rw e (ap (with_row x (f x)) (table_next xs i d f (omega arith)) ∙ append_with_row x (f x) (table_from (take i xs) f) (with_row (get_or xs i d) (f (get_or xs i d)) []))

-- one more identifier is one more cell behind each table
pub tables_next : (k : ℕ) (ids : List ℕ) (i d : ℕ) (f : ℕ → Cells) → i < length ids → tables_from k (take (i + 1) ids) f ≡ with_cells (tables_from k (take i ids) f) (get_or ids i d) (f (get_or ids i d))
tables_next zero ids i d f h = refl
tables_next (suc k) ids i d f h =
    ap (λ (rows : Rows). rows ∷ tables_from k (take (i + 1) ids) (λ id. other_cells (f id))) (table_next ids i d (λ id. first_cell (f id)) h)
    ∙ ap (λ (ts : Tables). (table_from (take i ids) (λ id. first_cell (f id)) ++ with_row (get_or ids i d) (first_cell (f (get_or ids i d))) []) ∷ ts) (tables_next k ids i d (λ id. other_cells (f id)) h)

least_of : (n : ℕ) (ids : List ℕ) (i d : ℕ) → IdsRise n ids → i < length ids → n ≤ get_or ids i d
least_of n [] i d rise h = absurd (omega arith)
least_of n (x ∷ xs) zero d rise h = rise.0
least_of n (x ∷ xs) (suc i) d rise h = omega (arith, rise.0, least_of (x + 1) xs i d rise.1 (omega arith))

below_with_row : (x id : ℕ) (o : Option (List Value)) (rows : Rows) → x < id → AreBelow rows id → AreBelow (with_row x o rows) id
below_with_row x id None rows h below = below
below_with_row x id (Some row) rows h below = (h, below)

table_below : (n : ℕ) (ids : List ℕ) (i d : ℕ) (f : ℕ → Option (List Value)) → IdsRise n ids → i < length ids → AreBelow (table_from (take i ids) f) (get_or ids i d)
table_below n [] i d f rise h = absurd (omega arith)
table_below n (x ∷ xs) zero d f rise h = tt
table_below n (x ∷ xs) (suc i) d f rise h =
    below_with_row x (get_or xs i d) (f x) (table_from (take i xs) f) (omega (arith, least_of (x + 1) xs i d rise.1 (omega arith))) (table_below (x + 1) xs i d f rise.1 (omega arith))

-- the next identifier is above those of what was made so far
pub tables_below : (k : ℕ) (ids : List ℕ) (i d : ℕ) (f : ℕ → Cells) → IdsRise 0 ids → i < length ids → AllBelow (tables_from k (take i ids) f) (get_or ids i d)
tables_below zero ids i d f rise h = tt
tables_below (suc k) ids i d f rise h = (table_below 0 ids i d (λ id. first_cell (f id)) rise h, tables_below k ids i d (λ id. other_cells (f id)) rise h)

-- what holds of the first identifiers and of the next one
pub has_next : (ids : List ℕ) (i d id : ℕ) (P : ℕ → Type 0) → i < length ids → (has_id (take i ids) id ≡ true → P id) → P (get_or ids i d) → has_id (take (i + 1) ids) id ≡ true → P id
has_next [] i d id P h before next has = absurd (omega arith)
has_next (x ∷ xs) zero d id P h before next has =
    let M : Bool → Type 0 = λ b. (x == id) ≡ b → (if b then true else false) ≡ true → P id in
    let both : M (x == id) = elim (x == id) as (λ b. M b) [
      | true ↦ λ e h. subst P (eqb-true x id e) next
      | false ↦ λ e h. absurd (cc)
    ] in
    both refl has
has_next (x ∷ xs) (suc i) d id P h before next has =
    let e : suc i + 1 ≡ suc (i + 1) = omega arith in
    let M : Bool → Type 0 = λ b. ((if b then true else has_id (take i xs) id) ≡ true → P id) → (if b then true else has_id (take (i + 1) xs) id) ≡ true → P id in
    let both : M (x == id) = elim (x == id) as (λ b. M b) [
      | true ↦ λ here now. here refl
      | false ↦ λ here now. has_next xs i d id P (omega arith) here next now
    ] in
    both before (rw e at has)

set_long : (tables : List TableState) (n : ℕ) (t : TableState) → length (set tables n t) ≡ length tables
set_long [] n t = refl
set_long (u ∷ us) zero t = refl
set_long (u ∷ us) (suc n) t = ap suc (set_long us n t)

-- a cell behind the table at its place
pub puts_there : (tables : List TableState) (at id : ℕ) (cell : Option (List Value)) (t d : TableState) → at < length tables → t.rows ≡ (get_or tables at d).rows ++ with_row id cell [] → PutsCell tables at id cell (set tables at t)
puts_there tables at id cell t d h made = record {
  puts = λ cells e.
      ap (λ (k : ℕ). with_cells (contents (set tables k t)) id cells) (sym e)
      ∙ with_last_cell tables id cells cell t d (omega (arith, e)) (made ∙ ap (λ (k : ℕ). (get_or tables k d).rows ++ with_row id cell []) (sym e));
  stays = λ k d h. set_before tables at k t d h;
  many = set_long tables at t;
}

pub puts_nothing : (tables : List TableState) (at id : ℕ) (cell : Option (List Value)) → length tables ≤ at → PutsCell tables at id cell tables
puts_nothing tables at id cell h = record {
  puts = λ cells e. with_extra_cell tables id cells cell (omega (arith, e));
  stays = λ k d h. refl;
  many = refl;
}

-- a slice that was written takes the place of what it was taken from
pub written_back : {A : Type 0} (n : ℕ) (new old : List A) → length new ≡ n → length old ≡ n → take n (new ++ drop (length new) old) ≡ new
written_back {A = A} n [] old e h = let k : n ≡ zero = omega (arith, e) in rw k refl
written_back {A = A} n (x ∷ xs) [] e h = absurd (omega arith)
written_back {A = A} n (x ∷ xs) (y ∷ ys) e h = let k : n ≡ suc (length xs) = omega (arith, e) in rw k (ap (λ (rest : List A). x ∷ rest) (written_back (length xs) xs ys refl (omega (arith, h, k))))

pub contents_more : (tables : List TableState) (t : TableState) → contents (tables ++ t ∷ []) ≡ contents tables ++ t.rows ∷ []
contents_more [] t = refl
contents_more (u ∷ us) t = ap (λ (ts : Tables). u.rows ∷ ts) (contents_more us t)

-- the tables after one more identifier, where `view` is the slice of those before it
pub pass_more : (k : ℕ) (ids : List ℕ) (i : ℕ) (f : ℕ → Cells) (n : ℕ) (before view new : List TableState) (cells : Cells) → i < length ids → view ≡ before → contents before ≡ tables_from k (take i ids) f → length new ≡ n → length before ≡ n → contents new ≡ with_cells (contents view) (get_or ids i 0) cells → cells ≡ f (get_or ids i 0) → contents (take n (new ++ drop (length new) before)) ≡ tables_from k (take (i + 1) ids) f
pass_more k ids i f n before view new cells h same made long old pushed is =
    ap contents (written_back n new before long old) ∙ pushed
    ∙ ap (λ (tables : List TableState). with_cells (contents tables) (get_or ids i 0) cells) same
    ∙ ap (λ (ts : Tables). with_cells ts (get_or ids i 0) cells) made
    ∙ ap (λ (cs : Cells). with_cells (tables_from k (take i ids) f) (get_or ids i 0) cs) is
    ∙ sym (tables_next k ids i 0 f h)

pub pass_below : (k : ℕ) (ids : List ℕ) (i : ℕ) (f : ℕ → Cells) (before view : List TableState) → IdsRise 0 ids → i < length ids → view ≡ before → contents before ≡ tables_from k (take i ids) f → AllBelow (contents view) (get_or ids i 0)
pass_below k ids i f before view rise h same made =
    subst (λ (ts : Tables). AllBelow ts (get_or ids i 0)) (sym (ap contents same ∙ made)) (tables_below k ids i 0 f rise h)

-- what is admitted is what is read back
pub admitted_is : (r : RowMeaning) (near aux : Tables) (id : ℕ) (far : Cells) → AdmitsRows r (cells_at near id) (cells_at aux id) (Some far) → AdmitsRows r (cells_at near id) (cells_at aux id) (Some (read_at r near aux id))
admitted_is r near aux id far admits = subst (λ (cells : Cells). AdmitsRows r (cells_at near id) (cells_at aux id) (Some cells)) admits.0 admits
