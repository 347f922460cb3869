-- The entries of a new source, each by its halves.
use Rattle.std.proofs.Common.{◌≡◌, ℕ, ◌<◌, ◌≤◌, ◌==◌, List, count_by, Bool, true, false, not, ◌&&◌, IsSome, is_some, refl, ap, sym, ◌∙◌, subst, arith}
use Rattle.std.proofs.lemmas.Bool.{and_parts, and_from, false≢true, eqb-true}
use Rattle.row_store.specs.Rows.{Rows, RiseFrom, row_of}
use Rattle.id_memory.specs.Pairs.{Pairs, IsOneToOne, has_pair}
use Rattle.op_law.specs.Sound.{RowsSound}
use Rattle.row_parts.specs.RowCells.{by_test}
use Rattle.pair_rows.specs.Halves.{first_of, second_of}
use Rattle.pair_rows.specs.Shown.{Joining, is_shown, all_pairs}
use Rattle.pair_rows.specs.inner.Lookups.{below_some}
use Rattle.pair_rows.specs.inner.PairLemmas.{often, once_all}
use Rattle.pair_rows.specs.inner.ShownLaws.{shown_there}
use Rattle.outer_law.specs.Entries.{with_absent, with_half, AreHalves, some_row, is_alone, is_entry, entries}
use Rattle.outer_law.proofs.AbsentLaws.{row_from, not_zero, absent_there, absent_zero, absent_rise, some_found, some_is}
use Rattle.outer_law.proofs.CountingLaws.{count_fewer, count_less, count_none}
use Rattle.outer_law.proofs.RenewedLaws.{renewed_pass, renewed_one, renewed_has, all_one}

module _ (j : Joining) (s t : Rows) (m : Pairs) (ns nt : Rows) where
  -- whether a pair is an entry
  abbrev pub is : ℕ → ℕ → Bool
  is a b = is_entry j s t m ns nt a b

  -- a full one
  pub entry_full : (a b : ℕ) → 1 ≤ a → 1 ≤ b → is a b ≡ is_shown j s t m ns nt a b
  entry_full a b h k = let one = not_zero a h in let other = not_zero b k in rw (one, other) refl

  -- a first half alone
  pub entry_first : (a : ℕ) → 1 ≤ a → is a 0 ≡ is_alone ns (λ b. is_shown j s t m ns nt a b) nt a
  entry_first a h = let one = not_zero a h in rw one refl

  -- halves that are there or absent
  pub entry_there : (a b : ℕ) → is a b ≡ true → IsSome (row_of (with_absent j.first ns) a) × IsSome (row_of (with_absent j.second nt) b)
  entry_there a b h =
      by_test (a == 0)
      (λ q.
      by_test (b == 0)
      (λ p. let none : false ≡ true = rw (q, p) at h in absurd (false≢true none))
      (λ p.
      let alone : is_alone nt (λ a. is_shown j s t m ns nt a b) ns b ≡ true = rw (q, p) at h in
      let both = and_parts (is_some (row_of nt b)) _ alone in
      (absent_zero j.first ns a q, absent_there j.second nt b both.0)))
      (λ q.
      by_test (b == 0)
      (λ p.
      let alone : is_alone ns (λ b. is_shown j s t m ns nt a b) nt a ≡ true = rw (q, p) at h in
      let both = and_parts (is_some (row_of ns a)) _ alone in
      (absent_there j.first ns a both.0, absent_zero j.second nt b p))
      (λ p.
      let full : is_shown j s t m ns nt a b ≡ true = rw (q, p) at h in
      let both = shown_there j s t m ns nt a b full in
      (absent_there j.first ns a both.0, absent_there j.second nt b both.1)))

  -- bounds
  pub entry_below : (n a b : ℕ) → RowsSound n ns → RowsSound n nt → is a b ≡ true → (a < n) × (b < n)
  entry_below n a b sound other h =
      by_test (a == 0)
      (λ q.
      by_test (b == 0)
      (λ p. let none : false ≡ true = rw (q, p) at h in absurd (false≢true none))
      (λ p.
      let alone : is_alone nt (λ a. is_shown j s t m ns nt a b) ns b ≡ true = rw (q, p) at h in
      let both = and_parts (is_some (row_of nt b)) _ alone in
      let below = below_some n nt b other both.0 in
      let low = below.0 in
      let high = below.1 in
      let same = eqb-true a 0 q in
      (omega (arith, low, high, same), high)))
      (λ q.
      by_test (b == 0)
      (λ p.
      let alone : is_alone ns (λ b. is_shown j s t m ns nt a b) nt a ≡ true = rw (q, p) at h in
      let both = and_parts (is_some (row_of ns a)) _ alone in
      let below = below_some n ns a sound both.0 in
      let low = below.0 in
      let high = below.1 in
      let same = eqb-true b 0 p in
      (high, omega (arith, low, high, same)))
      (λ p.
      let full : is_shown j s t m ns nt a b ≡ true = rw (q, p) at h in
      let both = shown_there j s t m ns nt a b full in
      ((below_some n ns a sound both.0).1, (below_some n nt b other both.1).1)))

  -- a row in an entry alone is in no full one
  pub first_lone : (a b : ℕ) → is a 0 ≡ true → is a b ≡ true → (b == 0) ≡ true
  first_lone a b lone h =
      by_test (a == 0)
      (λ q. let none : false ≡ true = rw q at lone in absurd (false≢true none))
      (λ q.
      by_test (b == 0)
      (λ p. p)
      (λ p.
      let alone : is_alone ns (λ b. is_shown j s t m ns nt a b) nt a ≡ true = rw q at lone in
      let both = and_parts (is_some (row_of ns a)) (not (some_row (λ b. is_shown j s t m ns nt a b) nt)) alone in
      let full : is_shown j s t m ns nt a b ≡ true = rw (q, p) at h in
      let some = some_found (λ b. is_shown j s t m ns nt a b) nt b (shown_there j s t m ns nt a b full).1 full in
      let no : not true ≡ true = subst (λ (c : Bool). not c ≡ true) some both.1 in
      absurd (false≢true no)))

  -- likewise of the second table
  pub second_lone : (a b : ℕ) → is 0 b ≡ true → is a b ≡ true → (a == 0) ≡ true
  second_lone a b lone h =
      by_test (b == 0)
      (λ q. let none : false ≡ true = rw q at lone in absurd (false≢true none))
      (λ q.
      by_test (a == 0)
      (λ p. p)
      (λ p.
      let alone : is_alone nt (λ a. is_shown j s t m ns nt a b) ns b ≡ true = rw q at lone in
      let both = and_parts (is_some (row_of nt b)) (not (some_row (λ a. is_shown j s t m ns nt a b) ns)) alone in
      let full : is_shown j s t m ns nt a b ≡ true = rw (p, q) at h in
      let some = some_found (λ a. is_shown j s t m ns nt a b) ns a (shown_there j s t m ns nt a b full).0 full in
      let no : not true ≡ true = subst (λ (c : Bool). not c ≡ true) some both.1 in
      absurd (false≢true no)))

  -- each first row is in an entry
  pub first_in : (a : ℕ) (X : Type 0) → RiseFrom 1 ns → RiseFrom 1 nt → IsSome (row_of ns a) → ((b : ℕ) → is a b ≡ true → IsSome (row_of (with_absent j.second nt) b) → X) → X
  first_in a X rise other_rise some f =
      let low = row_from 1 ns a rise some in
      by_test (some_row (λ b. is_shown j s t m ns nt a b) nt)
      (λ q. some_is (λ b. is_shown j s t m ns nt a b) nt X q
      (λ b there full. let high = row_from 1 nt b other_rise there in f b (entry_full a b low high ∙ full) (absent_there j.second nt b there)))
      (λ q. f 0 (entry_first a low ∙ and_from (is_some (row_of ns a)) _ some (ap not q)) refl)

  -- and each second one
  pub second_in : (b : ℕ) (X : Type 0) → RiseFrom 1 ns → RiseFrom 1 nt → IsSome (row_of nt b) → ((a : ℕ) → is a b ≡ true → IsSome (row_of (with_absent j.first ns) a) → X) → X
  second_in b X rise other_rise some f =
      let low = row_from 1 nt b other_rise some in
      let other = not_zero b low in
      by_test (some_row (λ a. is_shown j s t m ns nt a b) ns)
      (λ q. some_is (λ a. is_shown j s t m ns nt a b) ns X q
      (λ a there full. let high = row_from 1 ns a rise there in f a (entry_full a b high low ∙ full) (absent_there j.first ns a there)))
      (λ q. f 0 (rw other (and_from (is_some (row_of nt b)) _ some (ap not q))) refl)

  -- all pairs of halves
  abbrev pub halves : List (ℕ × ℕ)
  halves = all_pairs (with_absent j.first ns) (with_absent j.second nt)

  -- among them each stands once
  pub halves_once : RiseFrom 1 ns → RiseFrom 1 nt → (a b : ℕ) → often a b halves ≤ 1
  halves_once rise other_rise a b = once_all a b 0 0 (with_absent j.first ns) (with_absent j.second nt) (absent_rise j.first ns rise) (absent_rise j.second nt other_rise)

  -- no pair stands twice
  pub entries_one : (n : ℕ) → IsOneToOne m → RiseFrom 1 ns → RiseFrom 1 nt → IsOneToOne (entries j s t m ns nt n)
  entries_one n one rise other_rise = renewed_one is m halves n one (halves_once rise other_rise)

  -- no entry has both halves absent
  pub entries_none : (n : ℕ) → count_by (has_pair 0 0) (entries j s t m ns nt n) ≡ 0
  entries_none n = count_none is (has_pair 0 0) (entries j s t m ns nt n) (renewed_pass is m halves n)
      (λ e h.
      by_test (e.1 == 0 && e.2 == 0)
      (λ q.
      let both = and_parts (e.1 == 0) (e.2 == 0) q in
      let one = both.0 in
      let other = both.1 in
      let none : false ≡ true = rw (one, other) at h in
      absurd (false≢true none))
      (λ q. q))

  -- the first halves
  pub entries_first : (n : ℕ) → IsOneToOne m → RiseFrom 1 ns → RiseFrom 1 nt → AreHalves first_of second_of ns (entries j s t m ns nt n)
  entries_first n one rise other_rise = record {
    rise = rise;
    each = λ id some.
        first_in id (1 ≤ with_half first_of id (entries j s t m ns nt n)) rise other_rise some
        (λ b passes there.
        let listed = all_one id b (with_absent j.first ns) (with_absent j.second nt) (absent_there j.first ns id some) there in
        let has = renewed_has is m halves n id b passes listed in
        let more = count_less (has_pair id b) (λ e. e.1 == id) (entries j s t m ns nt n) (λ e q. (and_parts (e.1 == id) (e.2 == b) q).0) in
        omega (arith, has, more));
    alone = λ id some.
        by_test (is id 0)
        (λ q.
        let once = entries_one n one rise other_rise id 0 in
        let fewer = count_fewer is (λ e. e.1 == id) (has_pair id 0) (entries j s t m ns nt n) (renewed_pass is m halves n)
        (λ e passes p.
        let same = eqb-true e.1 id p in
        and_from (e.1 == id) (e.2 == 0) p (first_lone id e.2 q (ap (λ (i : ℕ). is i e.2) (sym same) ∙ passes))) in
        omega (arith, once, fewer))
        (λ q.
        let none = count_none is (λ e. e.1 == id && e.2 == 0) (entries j s t m ns nt n) (renewed_pass is m halves n)
        (λ e passes.
        by_test (e.1 == id && e.2 == 0)
        (λ p.
        let both = and_parts (e.1 == id) (e.2 == 0) p in
        let same : is e.1 e.2 ≡ is id 0 = ap (λ (i : ℕ). is i e.2) (eqb-true e.1 id both.0) ∙ ap (λ (i : ℕ). is id i) (eqb-true e.2 0 both.1) in
        absurd (false≢true (sym q ∙ sym same ∙ passes)))
        (λ p. p)) in
        absurd (omega (arith, none, some)));
  }

  -- the second halves
  pub entries_second : (n : ℕ) → IsOneToOne m → RiseFrom 1 ns → RiseFrom 1 nt → AreHalves second_of first_of nt (entries j s t m ns nt n)
  entries_second n one rise other_rise = record {
    rise = other_rise;
    each = λ id some.
        second_in id (1 ≤ with_half second_of id (entries j s t m ns nt n)) rise other_rise some
        (λ a passes there.
        let listed = all_one a id (with_absent j.first ns) (with_absent j.second nt) there (absent_there j.second nt id some) in
        let has = renewed_has is m halves n a id passes listed in
        let more = count_less (has_pair a id) (λ e. e.2 == id) (entries j s t m ns nt n) (λ e q. (and_parts (e.1 == a) (e.2 == id) q).1) in
        omega (arith, has, more));
    alone = λ id some.
        by_test (is 0 id)
        (λ q.
        let once = entries_one n one rise other_rise 0 id in
        let fewer = count_fewer is (λ e. e.2 == id) (has_pair 0 id) (entries j s t m ns nt n) (renewed_pass is m halves n)
        (λ e passes p.
        let same = eqb-true e.2 id p in
        and_from (e.1 == 0) (e.2 == id) (second_lone e.1 id q (ap (λ (i : ℕ). is e.1 i) (sym same) ∙ passes)) p) in
        omega (arith, once, fewer))
        (λ q.
        let none = count_none is (λ e. e.2 == id && e.1 == 0) (entries j s t m ns nt n) (renewed_pass is m halves n)
        (λ e passes.
        by_test (e.2 == id && e.1 == 0)
        (λ p.
        let both = and_parts (e.2 == id) (e.1 == 0) p in
        let same : is e.1 e.2 ≡ is 0 id = ap (λ (i : ℕ). is i e.2) (eqb-true e.1 0 both.1) ∙ ap (λ (i : ℕ). is 0 i) (eqb-true e.2 id both.0) in
        absurd (false≢true (sym q ∙ sym same ∙ passes)))
        (λ p. p)) in
        absurd (omega (arith, none, some)));
  }
