-- Identifiers that are closed in the memory split a pair of an outer join.
use Rattle.std.proofs.Common.{◌≡◌, ℕ, ◌≤◌, ◌==◌, ◌&&◌, ◌||◌, not, List, Bool, true, false, IsSome, refl, subst, arith}
use Rattle.std.proofs.lemmas.Bool.{and_parts, false≢true}
use mathlib.Core.Logic.{inl, inr}
use Rattle.row_store.specs.Rows.{Rows, row_of}
use Rattle.id_memory.specs.Pairs.{Pairs, has_pair}
use Rattle.op_law.specs.Local.{rows_only}
use Rattle.op_law.proofs.OnlyLaws.{rise_only, row_in, row_out}
use Rattle.op_rows.specs.inner.RowwiseLocal.{well_only}
use Rattle.row_parts.specs.RowCells.{Cell, by_test}
use Rattle.pair_rows.specs.Halves.{first_of, second_of}
use Rattle.pair_rows.specs.Shown.{IsJoined, Joining}
use Rattle.pair_rows.specs.Sides.{table_at}
use Rattle.pair_rows.specs.inner.PairLemmas.{count_filter}
use Rattle.outer_law.specs.Entries.{AreHalves, IsOuter, with_absent}
use Rattle.pair_parts.specs.Parts.{memory_only}
use Rattle.cond_parts.specs.Closed.{BringsRows}
use Rattle.cond_parts.proofs.JoinedLemmas.{part_joined}
use Rattle.cond_parts.proofs.TableLemmas.{table_only}
use Rattle.outer_parts.specs.Closed.{BringsHalf, BringsOther, ClosedSplits}
use Rattle.cond_parts.proofs.StandingLemmas.{stands_once}
use Rattle.cond_parts.proofs.StayLemmas.{stands_either}
use Rattle.outer_parts.proofs.AbsentLemmas.{row_from}
use Rattle.outer_parts.proofs.EntryLemmas.{count_stands, stands_count}

-- the absent row passes
pub absent_only : (P : ℕ → Bool) (places : List ℕ) (rows : Rows) → P 0 ≡ true → rows_only P (with_absent places rows) ≡ with_absent places (rows_only P rows)
absent_only P places rows e = rw e refl

-- the halves of a part
part_halves : (P : ℕ → Bool) (pick other : ℕ × ℕ × ℕ → ℕ) (rows : Rows) (m : Pairs) → AreHalves pick other rows m → BringsHalf P pick m → AreHalves pick other (rows_only P rows) (memory_only P m)
part_halves P pick other rows m are brings = record {
  rise = rise_only P 1 rows are.rise;
  each = λ id some.
      by_test (P id)
      (λ e.
      let there = subst (λ (c : Cell). IsSome c) (row_in P rows id e) some in
      let one = count_stands pick m id (are.each id there) in
      stands_count pick (memory_only P m) id (brings id (from_one id there) e one))
      (λ e. let none : false ≡ true = subst (λ (c : Cell). IsSome c) (row_out P rows id e) some in absurd (false≢true none));
  alone = λ id some.
      let fewer = count_filter (λ e. pick e == id && other e == 0) (λ e. P e.0) m in
      let few = count_filter (λ e. pick e == id) (λ e. P e.0) m in
      let most = are.alone id (omega (arith, fewer, some)) in
      omega (arith, few, most);
}
  where
    from_one : (id : ℕ) → IsSome (row_of rows id) → 1 ≤ id
    from_one id there = row_from 1 rows id are.rise there

-- THE PART OF AN OUTER JOIN IS ONE
pub part_outer : (j : Joining) (P : ℕ → Bool) (s t r : Rows) (m : Pairs) → IsOuter j s t r m → P 0 ≡ true → BringsRows P m → BringsHalf P first_of m → BringsHalf P second_of m
    → IsOuter j (rows_only P s) (rows_only P t) (rows_only P r) (memory_only P m)
part_outer j P s t r m is zero rows first second = record {
  joined = subst (λ (x : Rows). IsJoined j x (with_absent j.second (rows_only P t)) (rows_only P r) (memory_only P m)) (absent_only P j.first s zero)
      (subst (λ (x : Rows). IsJoined j (rows_only P (with_absent j.first s)) x (rows_only P r) (memory_only P m)) (absent_only P j.second t zero)
      (part_joined j P (with_absent j.first s) (with_absent j.second t) r m is.joined rows));
  none = let fewer = count_filter (has_pair 0 0) (λ e. P e.0) m in let most = is.none in omega (arith, fewer, most);
  first = part_halves P first_of second_of s m is.first first;
  second = part_halves P second_of first_of t m is.second second;
}

-- THE LAW OF PARTS
pub closed_splits : ClosedSplits
closed_splits j P hs ht p pair closed = record {
  related = λ xs ys is. record {
    fits = is.fits;
    related =
        let first = table_only P 0 p.source in
        let second = table_only P 1 p.source in
        let target = table_only P 0 p.target in
        rw (first, second, target) (part_outer j P (table_at 0 p.source) (table_at 1 p.source) (table_at 0 p.target) p.memory is.related closed.absent closed.rows closed.first closed.second);
    source_of = well_only P xs p.source is.source_of;
    target_of = well_only P ys p.target is.target_of;
  };
  at_source = refl;
  at_target = refl;
}

-- a row that brings an entry of which no half is changed brings an entry
pub half_from : (C P : ℕ → Bool) (pick : ℕ × ℕ × ℕ → ℕ) (m : Pairs) → BringsOther C P pick m → BringsHalf P pick m
half_from C P pick m other q low pass e =
    elim (stands_either P pick m q e) [
      | inl one ↦ one
      | inr one ↦ stands_once (λ x. P x.0 && not (C x.1 || C x.2)) (λ x. P x.0) pick m q (λ x h. (and_parts (P x.0) (not (C x.1 || C x.2)) h).0) (other q low pass one)
    ]
