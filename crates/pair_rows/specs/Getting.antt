-- A row of one side that was found or drawn.
use Rattle.std.proofs.Common.{true, subst, ◌≡◌, ℕ, ◌+◌, ◌<◌, ◌≤◌, ◌==◌, ◌⊎◌, List, [], ◌∷◌, length, Option, Some, None, IsSome, refl, ap, ◌∙◌, arith}
use Rattle.std.proofs.lemmas.Bool.{eqb-true, eq-eqb}
use mathlib.Core.Logic.{inl, inr}
use Rattle.par_base.specs.declared.value.Value.{Value}
use Rattle.row_store.specs.Rows.{Rows, RiseFrom, AreBelow, row_of}
use Rattle.row_store.specs.inner.FoundRows.{later, below_push, rises_push}
use Rattle.op_law.specs.Tables.{RowsWide}
use Rattle.op_law.specs.Sound.{ValuesSound, RowsSound}
use Rattle.op_law.proofs.SoundLaws.{rows_more, values_more}
use Rattle.row_parts.specs.Places.{pick as part}
use Rattle.row_parts.specs.RowCells.{Cell, by_test}
use Rattle.par_base.specs.SameRows.{same_row}
use Rattle.par_base.specs.inner.SameLaws.{row_equal}
use Rattle.pair_rows.specs.inner.Lookups.{found_before, found_behind, behind_or, wide_behind, sound_behind}
use Rattle.pair_rows.specs.Given.{Got, got, least, own, or_id, side_got}

-- the least row with some values has them
pub least_found : (n : ℕ) (rows : Rows) (x : List Value) (id : ℕ) → RiseFrom n rows → least rows x ≡ Some id → row_of rows id ≡ Some x
least_found n [] x id rise is = absurd (cc)
least_found n (r ∷ rs) x id rise is =
    by_test (same_row r.1 x)
    (λ e.
    let some : Some r.0 ≡ Some id = rw e at is in
    let number : r.0 ≡ id = cc in
    let here : (r.0 == id) ≡ true = let own = eq-eqb r.0 r.0 refl in subst (λ (i : ℕ). (r.0 == i) ≡ true) number own in
    let values = row_equal r.1 x e in
    rw here (ap (λ (v : List Value). Some v) values))
    (λ e. let rest : least rs x ≡ Some id = rw e at is in later r rs id x rise.1 (least_found (r.0 + 1) rs x id rise.1 rest))

-- the row has these values, and the rows are as before, but for one that was drawn
pub record IsGot (rows : Rows) (x : List Value) (n : ℕ) (g : Got) : Type 0 where
  pub next : n ≤ g.next
  pub rise : RiseFrom 0 g.rows
  pub below : AreBelow g.rows g.next
  pub found : row_of g.rows g.id ≡ Some x
  pub keeps : (id : ℕ) (row : List Value) → row_of rows id ≡ Some row → row_of g.rows id ≡ Some row
  pub drawn : (id : ℕ) → IsSome (row_of g.rows id) → IsSome (row_of rows id) ⊎ (n ≤ id)
  pub wide : (w : ℕ) → length x ≡ w → RowsWide w rows → RowsWide w g.rows
  pub sound : (k : ℕ) → 1 ≤ n → k ≤ n → ValuesSound k x → RowsSound n rows → RowsSound g.next g.rows

-- each of both does
pub got_is : (choice : Option ℕ) (rows : Rows) (x : List Value) (n : ℕ) → RiseFrom 0 rows → AreBelow rows n → ((id : ℕ) → choice ≡ Some id → row_of rows id ≡ Some x) → IsGot rows x n (got choice rows x n)
got_is (Some id) rows x n rise below found = record {
  next = omega arith;
  rise = rise;
  below = below;
  found = found id refl;
  keeps = λ k row at. at;
  drawn = λ k some. inl some;
  wide = λ w long wide. wide;
  sound = λ k low h values sound. sound;
}
got_is None rows x n rise below found = record {
  next = omega arith;
  rise = rises_push 0 rows n x (omega arith) rise below;
  below = below_push rows n x below;
  found = found_behind rows n x below;
  keeps = λ k row at. found_before rows ((n, x) ∷ []) k row at;
  drawn = λ k some. elim (behind_or rows k n x some) [ inl old ↦ inl old | inr new ↦ inr (omega (arith, new)) ];
  wide = λ w long wide. wide_behind w rows n x wide long;
  sound = λ k low h values sound. sound_behind (n + 1) rows n x (rows_more n (n + 1) (omega arith) rows sound) (low, omega arith) (values_more k (n + 1) (omega (arith, h)) x values);
}

-- where rows are below a number, a row that is found is
pub under : (rows : Rows) (n id : ℕ) (row : List Value) → AreBelow rows n → row_of rows id ≡ Some row → id < n
under [] n id row below found = absurd (cc)
under (r ∷ rs) n id row below found =
    by_test (r.0 == id)
    (λ e. let same = eqb-true r.0 id e in let h = below.0 in omega (arith, same, h))
    (λ e. let later : row_of rs id ≡ Some row = rw e at found in under rs n id row below.1 later)

-- the old identifier has the old row's part
abbrev pub OwnIs : List ℕ → Cell → Option ℕ → Rows → Type 0
OwnIs places old id rows = (row : List Value) (k : ℕ) → old ≡ Some row → id ≡ Some k → row_of rows k ≡ Some (part places row)

-- the own row has the part
own_found : (places : List ℕ) (old : Cell) (id : Option ℕ) (row : List Value) (rows : Rows) (k : ℕ) → OwnIs places old id rows → own places old id row ≡ Some k → row_of rows k ≡ Some (part places row)
own_found places None id row rows k is e = absurd (cc)
own_found places (Some old) id row rows k is e =
    by_test (same_row (part places old) (part places row))
    (λ q.
    let number : id ≡ Some k = rw q at e in
    let same = row_equal (part places old) (part places row) q in
    is old k refl number ∙ ap (λ (v : List Value). Some v) same)
    (λ q. let none : ◌≡◌ {A = Option ℕ} None (Some k) = rw q at e in absurd (cc))

-- either of two
or_found : (a b : Option ℕ) (rows : Rows) (x : List Value) (k : ℕ) → ((id : ℕ) → a ≡ Some id → row_of rows id ≡ Some x) → ((id : ℕ) → b ≡ Some id → row_of rows id ≡ Some x) → or_id a b ≡ Some k → row_of rows k ≡ Some x
or_found (Some id) b rows x k one other e = one k e
or_found None b rows x k one other e = other k e

-- a row of one side
pub side_is : (places : List ℕ) (old : Cell) (id : Option ℕ) (row : List Value) (rows : Rows) (n : ℕ) → RiseFrom 0 rows → AreBelow rows n → OwnIs places old id rows → IsGot rows (part places row) n (side_got places old id row rows n)
side_is places old id row rows n rise below is =
    got_is (or_id (own places old id row) (least rows (part places row))) rows (part places row) n rise below
    (λ k e. or_found (own places old id row) (least rows (part places row)) rows (part places row) k
    (λ i q. own_found places old id row rows i is q) (λ i q. least_found 0 rows (part places row) i rise q) e)
