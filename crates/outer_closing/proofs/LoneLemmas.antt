-- Halves that are in one entry alone, and entries with both halves.
use Rattle.std.proofs.Common.{◌≡◌, ℕ, ◌+◌, ◌≤◌, ◌==◌, ◌&&◌, List, [], ◌∷◌, count_by, cond, Bool, true, false, not, Option, Some, None, refl, ap, sym, ◌∙◌, arith}
use Rattle.std.proofs.lemmas.Bool.{and_from, and_parts, cases_order, eq-eqb, eqb-true, false≢true, ne_eqb}
use mathlib.Core.Logic.{inl, inr}
use Rattle.par_base.specs.declared.value.Value.{Value}
use Rattle.par_base.specs.SameRows.{same_row}
use Rattle.row_store.specs.Rows.{Rows}
use Rattle.id_memory.specs.Pairs.{Pairs, RiseFrom, pair_of}
use Rattle.op_law.specs.Identifiers.{has_id}
use Rattle.row_parts.specs.Places.{pick as part}
use Rattle.row_parts.specs.RowCells.{Cell, by_test}
use Rattle.pair_rows.specs.declared.half.Half.{Half}
use Rattle.pair_rows.specs.declared.half.Half.TheVariants.{First, Second}
use Rattle.pair_rows.specs.Given.{own}
use Rattle.pair_rows.specs.Halves.{pick_of}
use Rattle.pair_rows.specs.Stays.{stands}
use Rattle.pair_rows.specs.inner.Numbers.{count_cons}
use Rattle.pair_rows.specs.inner.PairLemmas.{count_filter, count_no}
use Rattle.pair_parts.specs.Parts.{memory_only}
use Rattle.pair_parts.proofs.MemoryLaws.{memory_in}
use Rattle.outer_law.specs.Entries.{AreHalves, with_half}
use Rattle.outer_law.specs.Placed.{half_there, own_half}
use Rattle.outer_law.proofs.CountingLaws.{count_less}
use Rattle.outer_law.proofs.SubsetLaws.{entry_counted, two_counted}
use Rattle.cond_closing.specs.Entries.{IsEntry, other_of}
use Rattle.cond_closing.specs.Steady.{BringsStill, changed_entries, stays}
use Rattle.cond_closing.proofs.StandLaws.{entry_same, stands_in}
use Rattle.outer_closing.specs.Assigned.{half_at}
use Rattle.outer_closing.proofs.SharedLemmas.{Triple, both_there, from_one, there_by, there_halves}

-- ---- the entry of an identifier that keeps a half

own_is : (places : List ℕ) (old : Cell) (o : Option ℕ) (row : List Value) (a : ℕ) → own places old o row ≡ Some a → o ≡ Some a
own_is places None o row a e = absurd (cc)
own_is places (Some old) o row a e =
    by_test (same_row (part places old) (part places row))
    (λ u. rw u at e)
    (λ u. let none : ◌≡◌ {A = Option ℕ} None (Some a) = rw u at e in absurd (cc))

there_is : (o : Option ℕ) (a : ℕ) → half_there o ≡ Some a → o ≡ Some a
there_is None a e = absurd (cc)
there_is (Some id) a e =
    by_test (id == 0)
    (λ u. let none : ◌≡◌ {A = Option ℕ} None (Some a) = rw u at e in absurd (cc))
    (λ u. rw u at e)

-- its entry has the half
pub record OwnEntry (half : Half) (m : Pairs) (id a : ℕ) : Type 0 where
  pub pair : ℕ × ℕ
  pub is : pair_of m id ≡ Some pair
  pub has : pick_of half (id, pair.0, pair.1) ≡ a

pair_is : (half : Half) (m : Pairs) (id a : ℕ) (o : Option (ℕ × ℕ)) → pair_of m id ≡ o → half_at half o ≡ Some a → OwnEntry half m id a
pair_is First m id a None is e = absurd (cc)
pair_is Second m id a None is e = absurd (cc)
pair_is First m id a (Some pair) is e = let some : ◌≡◌ {A = Option ℕ} (Some pair.0) (Some a) = e in record { pair = pair; is = is; has = cc }
pair_is Second m id a (Some pair) is e = let some : ◌≡◌ {A = Option ℕ} (Some pair.1) (Some a) = e in record { pair = pair; is = is; has = cc }

pub own_entry : (half : Half) (places : List ℕ) (old : Cell) (m : Pairs) (id : ℕ) (row : List Value) (a : ℕ) → own_half places old (half_at half (pair_of m id)) row ≡ Some a → OwnEntry half m id a
own_entry half places old m id row a e = pair_is half m id a (pair_of m id) refl (there_is (half_at half (pair_of m id)) a (own_is places old (half_there (half_at half (pair_of m id))) row a e))

-- ---- counts

-- two entries of a test
two_of : (f : Triple → Bool) (m : Pairs) (d e : Triple) → (d.0 == e.0) ≡ false → IsEntry m d → IsEntry m e → f d ≡ true → f e ≡ true → 2 ≤ count_by f m
two_of f m d e other is_d is_e one two =
    elim (cases_order d.0 e.0) [
      | inl same ↦ absurd (false≢true (sym other ∙ eq-eqb d.0 e.0 same))
      | inr (inl h) ↦ two_counted f m d.0 e.0 d.1 d.2 e.1 e.2 h is_d is_e one two
      | inr (inr h) ↦ two_counted f m e.0 d.0 e.1 e.2 d.1 d.2 h is_e is_d two one
    ]

-- one entry
one_of : (f : Triple → Bool) (m : Pairs) (d : Triple) → IsEntry m d → f d ≡ true → 1 ≤ count_by f m
one_of f m d is h =
    let here = entry_counted f m d.0 d.1 d.2 is h in
    let all = count_less (λ e. e.0 == d.0 && f e) f m (λ e u. (and_parts (e.0 == d.0) (f e) u).1) in
    omega (arith, here, all)

-- where all entries with a half pass, as many have it in the part
all_counted : (pick : Triple → ℕ) (P : ℕ → Bool) (es : Pairs) (a : ℕ) → stands pick (memory_only (λ i. not (P i)) es) a ≡ false → with_half pick a (memory_only P es) ≡ with_half pick a es
all_counted pick P [] a none = refl
all_counted pick P (e ∷ es) a none =
    by_test (P e.0)
    (λ u.
    let rest : stands pick (memory_only (λ i. not (P i)) es) a ≡ false = rw u at none in
    let ih = all_counted pick P es a rest in
    let part : count_by (λ x. pick x == a) (e ∷ memory_only P es) ≡ count_by (λ x. pick x == a) (e ∷ es) =
    count_cons (λ x. pick x == a) e (memory_only P es) ∙ ap (λ (k : ℕ). cond (pick e == a) 1 0 + k) ih ∙ sym (count_cons (λ x. pick x == a) e es) in
    rw u part)
    (λ u.
    let here : stands pick (e ∷ memory_only (λ i. not (P i)) es) a ≡ false = rw u at none in
    by_test (pick e == a)
    (λ v. let bad : true ≡ false = rw v at here in absurd (false≢true (sym bad)))
    (λ v.
    let rest : stands pick (memory_only (λ i. not (P i)) es) a ≡ false = rw v at here in
    let ih = all_counted pick P es a rest in
    rw u (ih ∙ sym (count_no (λ x. pick x == a) e es v))))

-- more than one isn't one
not_one : (k : ℕ) → 2 ≤ k → (k == 1) ≡ false
not_one k h = ne_eqb k 1 (λ e. absurd (omega (arith, h, e)))

module _ (pick : Triple → ℕ) (half : Half) (same_half : (e : Triple) → pick_of half e ≡ pick e) (m : Pairs) (rise : RiseFrom 0 m) where
  -- A HALF IS IN NO OTHER ENTRY of the part exactly where it is in no other at all, where an identifier that passes has it and a further entry of it is among those that pass
  pub lone : (P : ℕ → Bool) (ids : List ℕ) (id a : ℕ) → OwnEntry half m id a → P id ≡ true → ((q : ℕ) → has_id ids q ≡ true → P q ≡ true) → BringsStill half (changed_entries m (id ∷ [])) ids a
      → (with_half pick a (memory_only P m) == 1) ≡ (with_half pick a m == 1)
  lone P ids id a mine pass listed brings =
      by_test (stands pick (memory_only (λ i. not (P i)) m) a)
      (λ out.
      let s = stands_in pick (λ e. not (P e.0)) 0 m a rise out in
      let away : (id == s.entry.0) ≡ false = by_test (id == s.entry.0) (λ u. let bad : not (P id) ≡ true = ap (λ (k : ℕ). not (P k)) (eqb-true id s.entry.0 u) ∙ s.pass in absurd (false≢true (sym (ap not pass) ∙ bad))) (λ u. u) in
      let test : stays (changed_entries m (id ∷ [])) s.entry ≡ true = rw away refl in
      let f = brings s.entry s.is (same_half s.entry ∙ s.has) test in
      let d = f.still.entry in
      let still = f.still.still in
      let apart : (id == d.0) ≡ false = by_test (id == d.0) (λ u. let bad : false ≡ true = rw u at still in absurd (false≢true bad)) (λ u. u) in
      let other : P d.0 ≡ true = ap P f.still.own ∙ listed f.id f.among in
      let small = two_of (λ e. pick e == a) (memory_only P m) (id, mine.pair.0, mine.pair.1) d apart (memory_in P m id pass ∙ mine.is) (memory_in P m d.0 other ∙ f.still.is)
      (eq-eqb (pick (id, mine.pair.0, mine.pair.1)) a (sym (same_half (id, mine.pair.0, mine.pair.1)) ∙ mine.has)) (eq-eqb (pick d) a (sym (same_half d) ∙ f.still.has)) in
      let fewer = count_filter (λ e. pick e == a) (λ e. P e.0) m in
      not_one (with_half pick a (memory_only P m)) small ∙ sym (not_one (with_half pick a m) (omega (arith, small, fewer))))
      (λ none. ap (λ (k : ℕ). k == 1) (all_counted pick P m a none))

  -- AN ENTRY HAS BOTH HALVES where another one with one of them has
  module _ (other : Triple → ℕ) (same_other : (e : Triple) → other_of half e ≡ other e) (rows : Rows) (halves : AreHalves pick other rows m) where
    pub both_too : (d e : Triple) → IsEntry m d → IsEntry m e → pick d ≡ pick e → both_there e ≡ true → both_there d ≡ true
    both_too d e is_d is_e same full =
        let both = there_halves half e full in
        let low = both.0 in
        let high = both.1 in
        let own = same_half e in
        let mine = same_half d in
        by_test (other d == 0)
        (λ none.
        let alone = one_of (λ x. pick x == pick e && other x == 0) m d is_d (and_from (pick d == pick e) (other d == 0) (eq-eqb (pick d) (pick e) same) none) in
        let most = halves.alone (pick e) alone in
        by_test (d.0 == e.0)
        (λ u.
        let one = entry_same m d e is_d is_e (eqb-true d.0 e.0 u) in
        let zero : other e ≡ 0 = sym (ap other one) ∙ eqb-true (other d) 0 none in
        let theirs = same_other e in
        absurd (omega (arith, high, theirs, zero)))
        (λ u.
        let two = two_of (λ x. pick x == pick e) m d e u is_d is_e (eq-eqb (pick d) (pick e) same) (eq-eqb (pick e) (pick e) refl) in
        absurd (omega (arith, most, two))))
        (λ some.
        let there = from_one (other d) (ap not some) in
        let its = same_other d in
        there_by half d (omega (arith, low, own, mine, same)) (omega (arith, there, its)))
