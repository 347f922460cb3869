-- Rows of one side that are found or drawn, in a part and in the whole.
use Rattle.std.proofs.Common.{◌≡◌, ℕ, ◌+◌, ◌≤◌, ◌⊎◌, List, [], ◌∷◌, ◌++◌, Bool, true, not, Option, Some, None, refl, ap, sym, ◌∙◌, arith}
use mathlib.Core.Logic.{inl, inr}
use Rattle.par_base.specs.declared.value.Value.{Value}
use Rattle.par_base.specs.SameRows.{same_row}
use Rattle.row_store.specs.Rows.{Rows}
use Rattle.op_law.specs.Local.{rows_only}
use Rattle.row_parts.specs.Places.{pick as part}
use Rattle.row_parts.specs.RowCells.{Cell, by_test}
use Rattle.pair_rows.specs.Given.{Got, got, least, or_id, own, side_got}

-- a row behind that passes
only_behind : (P : ℕ → Bool) (rows : Rows) (id : ℕ) (row : List Value) → P id ≡ true → rows_only P (rows ++ (id, row) ∷ []) ≡ rows_only P rows ++ (id, row) ∷ []
only_behind P [] id row e = rw e refl
only_behind P (r ∷ rs) id row e =
    let rest = only_behind P rs id row e in
    by_test (P r.0) (λ q. rw q (ap (λ (l : Rows). r ∷ l) rest)) (λ q. rw q rest)

-- is none of the others
rest_behind : (P : ℕ → Bool) (rows : Rows) (id : ℕ) (row : List Value) → P id ≡ true → rows_only (λ q. not (P q)) (rows ++ (id, row) ∷ []) ≡ rows_only (λ q. not (P q)) rows
rest_behind P [] id row e = rw e refl
rest_behind P (r ∷ rs) id row e =
    let rest = rest_behind P rs id row e in
    by_test (P r.0) (λ q. rw q rest) (λ q. rw q (ap (λ (l : Rows). r ∷ l) rest))

-- what was found or drawn, with the rows that pass
abbrev pub got_part : (ℕ → Bool) → Got → Got
got_part P g = record { id = g.id; rows = rows_only P g.rows; next = g.next }

-- of the same choice
pub got_only : (P : ℕ → Bool) (o : Option ℕ) (rows : Rows) (x : List Value) (n : ℕ) → P n ≡ true → got o (rows_only P rows) x n ≡ got_part P (got o rows x n)
got_only P (Some id) rows x n e = refl
got_only P None rows x n e = ap (λ (l : Rows). record { id = n; rows = l; next = n + 1 }) (sym (only_behind P rows n x e))

-- the others stay
pub got_rest : (P : ℕ → Bool) (o : Option ℕ) (rows : Rows) (x : List Value) (n : ℕ) → P n ≡ true → rows_only (λ q. not (P q)) (got o rows x n).rows ≡ rows_only (λ q. not (P q)) rows
got_rest P (Some id) rows x n e = refl
got_rest P None rows x n e = rest_behind P rows n x e

-- a choice that passes
pub got_pass : (P : ℕ → Bool) (o : Option ℕ) (rows : Rows) (x : List Value) (n : ℕ) → P n ≡ true → ((q : ℕ) → o ≡ Some q → P q ≡ true) → P (got o rows x n).id ≡ true
got_pass P (Some id) rows x n e h = h id refl
got_pass P None rows x n e h = e

-- the next identifier
pub got_next : (o : Option ℕ) (rows : Rows) (x : List Value) (n : ℕ) → n ≤ (got o rows x n).next
got_next (Some id) rows x n = omega arith
got_next None rows x n = omega arith

-- it was chosen or drawn
pub got_id : (o : Option ℕ) (rows : Rows) (x : List Value) (n : ℕ) → (o ≡ Some (got o rows x n).id) ⊎ (n ≤ (got o rows x n).id)
got_id (Some id) rows x n = inl refl
got_id None rows x n = inr (omega arith)

-- what is the least in the rows is the least in the old ones, or was drawn
abbrev pub LeastFrom : ℕ → Rows → Rows → Type 0
LeastFrom n base rows = (x : List Value) (q : ℕ) → least rows x ≡ Some q → (least base x ≡ Some q) ⊎ (n ≤ q)

-- with one behind
least_behind : (rows : Rows) (id : ℕ) (y x : List Value) (q : ℕ) → least (rows ++ (id, y) ∷ []) x ≡ Some q → (least rows x ≡ Some q) ⊎ (id ≡ q)
least_behind [] id y x q e =
    by_test (same_row y x)
    (λ u. let same : Some id ≡ Some q = rw u at e in inr (cc))
    (λ u. let none : ◌≡◌ {A = Option ℕ} None (Some q) = rw u at e in absurd (cc))
least_behind (r ∷ rs) id y x q e =
    by_test (same_row r.1 x)
    (λ u. let same : Some r.0 ≡ Some q = rw u at e in inl (rw u same))
    (λ u. let rest : least (rs ++ (id, y) ∷ []) x ≡ Some q = rw u at e in rw u (least_behind rs id y x q rest))

pub got_from : (n : ℕ) (base : Rows) (o : Option ℕ) (rows : Rows) (x : List Value) (k : ℕ) → n ≤ k → LeastFrom n base rows → LeastFrom n base (got o rows x k).rows
got_from n base (Some id) rows x k h from = from
got_from n base None rows x k h from = λ y q e. elim (least_behind rows k x y q e) [ inl old ↦ from y q old | inr new ↦ inr (omega (arith, h, new)) ]

-- the least passes, so it is that of the part
least_only : (P : ℕ → Bool) (rows : Rows) (x : List Value) → ((q : ℕ) → least rows x ≡ Some q → P q ≡ true) → least (rows_only P rows) x ≡ least rows x
least_only P [] x h = refl
least_only P (r ∷ rs) x h =
    by_test (same_row r.1 x)
    (λ u. let pass = h r.0 (rw u refl) in rw pass (rw u refl))
    (λ u.
    let rest = least_only P rs x (λ q e. h q (rw u e)) in
    by_test (P r.0) (λ v. rw v (rw u rest)) (λ v. rw v (rw u rest)))

-- the same, where another one may be chosen before
pub or_only : (P : ℕ → Bool) (o : Option ℕ) (rows : Rows) (x : List Value) → ((q : ℕ) → or_id o (least rows x) ≡ Some q → P q ≡ true) → or_id o (least (rows_only P rows) x) ≡ or_id o (least rows x)
or_only P (Some id) rows x h = refl
or_only P None rows x h = least_only P rows x h

pub or_from : (n : ℕ) (base : Rows) (o : Option ℕ) (rows : Rows) (x : List Value) (q : ℕ) → LeastFrom n base rows → or_id o (least rows x) ≡ Some q → (or_id o (least base x) ≡ Some q) ⊎ (n ≤ q)
or_from n base (Some id) rows x q from e = inl e
or_from n base None rows x q from e = from x q e

-- what is found or drawn in a part, and in the whole
pub record SideGot (P : ℕ → Bool) (n : ℕ) (base rows : Rows) (found : Option ℕ) (k : ℕ) (g small : Got) : Type 0 where
  pub is_part : small ≡ got_part P g
  pub from : (found ≡ Some g.id) ⊎ (n ≤ g.id)
  pub pass : P g.id ≡ true
  pub least_from : LeastFrom n base g.rows
  pub rest : rows_only (λ q. not (P q)) g.rows ≡ rows_only (λ q. not (P q)) rows
  pub next : k ≤ g.next

-- THE PART FINDS AND DRAWS AS THE WHOLE, where the old row that is found passes
pub side_part : (P : ℕ → Bool) (n : ℕ) (base : Rows) (places : List ℕ) (old : Cell) (id : Option ℕ) (row : List Value) (rows : Rows) (k : ℕ) → n ≤ k → ((q : ℕ) → n ≤ q → P q ≡ true) → LeastFrom n base rows
    → ((q : ℕ) → or_id (own places old id row) (least base (part places row)) ≡ Some q → P q ≡ true)
    → SideGot P n base rows (or_id (own places old id row) (least base (part places row))) k (side_got places old id row rows k) (side_got places old id row (rows_only P rows) k)
side_part P n base places old id row rows k h high from found =
    let o = own places old id row in
    let x = part places row in
    let choice = or_id o (least rows x) in
    let passes : (q : ℕ) → choice ≡ Some q → P q ≡ true = λ q e. elim (or_from n base o rows x q from e) [ inl old ↦ found q old | inr new ↦ high q new ] in
    let drawn = high k h in
    record {
      is_part = ap (λ (c : Option ℕ). got c (rows_only P rows) x k) (or_only P o rows x passes) ∙ got_only P choice rows x k drawn;
      from = elim (got_id choice rows x k) [ inl e ↦ or_from n base o rows x (got choice rows x k).id from e | inr low ↦ inr (omega (arith, h, low)) ];
      pass = got_pass P choice rows x k drawn passes;
      least_from = got_from n base choice rows x k h from;
      rest = got_rest P choice rows x k drawn;
      next = got_next choice rows x k;
    }
