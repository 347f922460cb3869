-- What holds before the rows of a new outer join are placed.
use Rattle.std.proofs.Common.{◌≡◌, ℕ, ◌<◌, ◌≤◌, ◌==◌, List, [], ◌∷◌, count_by, Bool, true, false, not, ◌&&◌, Some, IsSome, refl, ap, sym, ◌∙◌, arith}
use Rattle.std.proofs.lemmas.Bool.{and_parts, and_from, false≢true, eqb-true, eq-eqb, ne_eqb}
use Rattle.par_base.specs.declared.value.Value.{Value}
use Rattle.row_store.specs.Rows.{Rows, RiseFrom, AreBelow, row_of}
use Rattle.row_store.proofs.UndoLaws.{ext}
use Rattle.row_store.specs.inner.FoundRows.{rise_more}
use Rattle.id_memory.specs.Pairs.{Pairs, RiseFrom as PairsRise, has_pair}
use Rattle.op_law.specs.Sound.{PairsSound}
use Rattle.row_parts.specs.RowCells.{by_test, by_option}
use Rattle.pair_rows.specs.Halves.{first_of, second_of}
use Rattle.pair_rows.specs.Stays.{stands}
use Rattle.pair_rows.specs.Given.{least}
use Rattle.pair_rows.specs.Getting.{least_found}
use Rattle.pair_rows.specs.inner.Numbers.{count_cons}
use Rattle.pair_rows.specs.inner.Lookups.{filter_found, filter_lost, filter_rise}
use Rattle.pair_rows.specs.inner.PairLemmas.{count_yes, count_no}
use Rattle.pair_rows.specs.inner.FoundPairs.{AllPaired}
use Rattle.outer_law.specs.Entries.{with_half, with_half_alone, AreHalves}
use Rattle.outer_law.specs.Placed.{full, standing}
use Rattle.outer_law.specs.OuterOn.{with_it}
use Rattle.outer_law.proofs.StillLaws.{above_zero}
use Rattle.outer_law.proofs.CountingLaws.{all_pass, count_none, count_less, count_two}
use Rattle.outer_law.proofs.SubsetLaws.{sub_count, sub_count_but}
use Rattle.outer_law.proofs.HalfLaws.{HalfReady}

-- one half of an entry, and the other
pub record ArePicks (pick other : ℕ × ℕ × ℕ → ℕ) : Type 0 where
  pub both : (e : ℕ × ℕ × ℕ) → (not (e.1 == 0) && not (e.2 == 0)) ≡ true → ((pick e == 0) ≡ false) × ((other e == 0) ≡ false)
  pub none : (e : ℕ × ℕ × ℕ) → (pick e == 0 && other e == 0) ≡ true → has_pair 0 0 e ≡ true
  pub below : (n : ℕ) (e : ℕ × ℕ × ℕ) → (e.1 < n) × (e.2 < n) → pick e < n

-- a test that fails
not_false : (b : Bool) → not b ≡ true → b ≡ false
not_false true h = absurd (false≢true h)
not_false false h = refl

pub first_picks : ArePicks first_of second_of
first_picks = record {
  both = λ e h. let parts = and_parts (not (e.1 == 0)) (not (e.2 == 0)) h in (not_false (e.1 == 0) parts.0, not_false (e.2 == 0) parts.1);
  none = λ e h. h;
  below = λ n e h. h.0;
}

pub second_picks : ArePicks second_of first_of
second_picks = record {
  both = λ e h. let parts = and_parts (not (e.1 == 0)) (not (e.2 == 0)) h in (not_false (e.2 == 0) parts.1, not_false (e.1 == 0) parts.0);
  none = λ e h. let parts = and_parts (e.2 == 0) (e.1 == 0) h in and_from (e.1 == 0) (e.2 == 0) parts.1 parts.0;
  below = λ n e h. h.1;
}

module _ (pick other : ℕ × ℕ × ℕ → ℕ) (picks : ArePicks pick other) where
  -- an identifier stands where entries with it are counted
  pub stands_counted : (es : Pairs) (id : ℕ) → stands pick es id ≡ true → 1 ≤ with_half pick id es
  stands_counted [] id h = absurd (false≢true h)
  stands_counted (e ∷ es) id h =
      let all = count_cons (λ e. pick e == id) e es in
      by_test (pick e == id)
      (λ q. let one = count_yes (λ e. pick e == id) e es q in omega (arith, one))
      (λ q. let later : stands pick es id ≡ true = rw q at h in let rest = stands_counted es id later in omega (arith, all, rest))

  -- the other way
  pub counted_stands : (es : Pairs) (id : ℕ) → 1 ≤ with_half pick id es → stands pick es id ≡ true
  counted_stands [] id h = absurd (omega (arith, h))
  counted_stands (e ∷ es) id h =
      by_test (pick e == id)
      (λ q. rw q refl)
      (λ q. let less = count_no (λ e. pick e == id) e es q in rw q (counted_stands es id (omega (arith, h, less))))

  -- also among the entries in which this half is there
  pub counted_with : (es : Pairs) (id : ℕ) → 1 ≤ id → 1 ≤ with_half pick id es → stands pick (with_it pick es) id ≡ true
  counted_with [] id low h = absurd (omega (arith, h))
  counted_with (e ∷ es) id low h =
      by_test (pick e == id)
      (λ q.
      let same = eqb-true (pick e) id q in
      let away : (pick e == 0) ≡ false = ne_eqb (pick e) 0 (λ u. absurd (omega (arith, u, same, low))) in
      rw (away, q) refl)
      (λ q.
      let less = count_no (λ e. pick e == id) e es q in
      let rest = counted_with es id low (omega (arith, h, less)) in
      by_test (pick e == 0)
      (λ u. rw u rest)
      (λ u. rw (u, q) rest))

  -- a full entry
  full_counted : (es : Pairs) (id : ℕ) → stands pick (full es) id ≡ true → 1 ≤ count_by (λ e. pick e == id && (not (e.1 == 0) && not (e.2 == 0))) es
  full_counted [] id h = absurd (false≢true h)
  full_counted (e ∷ es) id h =
      let all = count_cons (λ e. pick e == id && (not (e.1 == 0) && not (e.2 == 0))) e es in
      by_test (not (e.1 == 0) && not (e.2 == 0))
      (λ u.
      by_test (pick e == id)
      (λ q.
      let one = count_yes (λ e. pick e == id && (not (e.1 == 0) && not (e.2 == 0))) e es (and_from (pick e == id) (not (e.1 == 0) && not (e.2 == 0)) q u) in
      omega (arith, one))
      (λ q.
      let later : stands pick (full es) id ≡ true = rw (u, q) at h in
      let rest = full_counted es id later in
      omega (arith, all, rest)))
      (λ u.
      let later : stands pick (full es) id ≡ true = rw u at h in
      let rest = full_counted es id later in
      omega (arith, all, rest))

  -- a full entry has this half
  full_low : (es : Pairs) (id : ℕ) → 1 ≤ count_by (λ e. pick e == id && (not (e.1 == 0) && not (e.2 == 0))) es → 1 ≤ id
  full_low es id some =
      by_test (id == 0)
      (λ q.
      let zero_count = count_none (λ a b. true) (λ e. pick e == id && (not (e.1 == 0) && not (e.2 == 0))) es (all_pass es)
      (λ e t.
      by_test (pick e == id && (not (e.1 == 0) && not (e.2 == 0)))
      (λ u.
      let parts = and_parts (pick e == id) (not (e.1 == 0) && not (e.2 == 0)) u in
      let there = (picks.both e parts.1).0 in
      let gone : (pick e == 0) ≡ true = sym (ap (λ (i : ℕ). pick e == i) (eqb-true id 0 q)) ∙ parts.0 in
      absurd (false≢true (sym there ∙ gone)))
      (λ u. u)) in
      absurd (omega (arith, some, zero_count)))
      (λ q. above_zero id q)

  -- an old half is below
  sound_none : (n : ℕ) (es : Pairs) (id : ℕ) → PairsSound n es → n ≤ id → with_half pick id es ≡ 0
  sound_none n [] id sound h = refl
  sound_none n (e ∷ es) id sound h =
      let low = picks.below n e (sound.0.1, sound.0.2) in
      let no : (pick e == id) ≡ false = ne_eqb (pick e) id (λ q. absurd (omega (arith, q, low, h))) in
      count_no (λ e. pick e == id) e es no ∙ sound_none n es id sound.1 h

  -- no number is not 0
  zero_by : (n : ℕ) → (1 ≤ n → ⊥) → n ≡ 0
  zero_by n h = by_test (n == 0) (λ q. eqb-true n 0 q) (λ q. absurd (h (above_zero n q)))

  -- one half before rows are placed
  pub start_half : (s : Rows) (m kept : Pairs) (n : ℕ) → AreHalves pick other s m → AreBelow s n → count_by (has_pair 0 0) m ≡ 0 → PairsSound n m → PairsRise 0 m → PairsRise 0 kept → AllPaired m kept → HalfReady pick other s s (standing pick (full kept) s) m kept kept n 0
  start_half s m kept n halves below none sound rise kept_rise paired =
      let sub : (f : ℕ × ℕ × ℕ → Bool) → count_by f kept ≤ count_by f m = λ f. sub_count f 0 m kept rise kept_rise paired in
      let row : (x : List Value) (id : ℕ) → least (standing pick (full kept) s) x ≡ Some id → row_of (standing pick (full kept) s) id ≡ Some x =
      λ x id at. least_found 1 (standing pick (full kept) s) x id (filter_rise (λ i. stands pick (full kept) i) 1 s halves.rise) at in
      let there : (x : List Value) (id : ℕ) → least (standing pick (full kept) s) x ≡ Some id → stands pick (full kept) id ≡ true =
      λ x id at. by_test (stands pick (full kept) id) (λ q. q) (λ q.
      let gone = filter_lost (λ i. stands pick (full kept) i) s id q in
      let found = row x id at in
      absurd (cc)) in
      record {
        rise = halves.rise;
        below = below;
        keeps = λ id row at. at;
        found = λ x id at. sym (filter_found (λ i. stands pick (full kept) i) s id (there x id at)) ∙ row x id at;
        common = λ x id at.
            let some = full_counted kept id (there x id at) in
            let half = count_less (λ e. pick e == id && (not (e.1 == 0) && not (e.2 == 0))) (λ e. pick e == id) kept (λ e q. (and_parts (pick e == id) (not (e.1 == 0) && not (e.2 == 0)) q).0) in (
              full_low kept id some,
              zero_by (with_half_alone pick other id kept) (λ one.
                  let fewer = sub (λ e. pick e == id && other e == 0) in
                  let most = halves.alone id (omega (arith, one, fewer)) in
                  let all = sub (λ e. pick e == id) in
                  let two = count_two (λ e. pick e == id && (not (e.1 == 0) && not (e.2 == 0))) (λ e. pick e == id && other e == 0) (λ e. pick e == id) kept
                  (λ e q. (and_parts (pick e == id) (not (e.1 == 0) && not (e.2 == 0)) q).0)
                  (λ e q. (and_parts (pick e == id) (other e == 0) q).0)
                  (λ e q.
                  let parts = and_parts (pick e == id) (not (e.1 == 0) && not (e.2 == 0)) q in
                  let is = parts.0 in
                  let away = (picks.both e parts.1).1 in
                  rw (is, away) refl) in
                  absurd (omega (arith, one, some, two, all, most))),
              omega (arith, some, half),
            );
        none =
            let a = count_less (λ e. pick e == 0 && other e == 0) (has_pair 0 0) kept picks.none in
            let b = sub (has_pair 0 0) in
            omega (arith, a, b, none);
        alone = λ id some.
            let a = sub (λ e. pick e == id && other e == 0) in
            let most = halves.alone id (omega (arith, some, a)) in
            let b = sub (λ e. pick e == id) in
            omega (arith, b, most);
        under = λ id one within.
            let a = sub (λ e. pick e == id) in
            let b = sound_none n m id sound within in
            omega (arith, a, b);
        free = λ p id to absent own one.
            let yes : (pick (p, own.one, own.other) == id) ≡ true = let self = eq-eqb id id refl in ap (λ (i : ℕ). i == id) own.half ∙ self in
            let fewer = sub_count_but (λ e. pick e == id) m kept p own.one own.other rise kept_rise paired absent own.at yes in (
              zero_by (with_half_alone pick other id kept) (λ some.
                  let a = sub (λ e. pick e == id && other e == 0) in
                  let most = halves.alone id (omega (arith, some, a)) in
                  let b = count_less (λ e. pick e == id && other e == 0) (λ e. pick e == id) kept (λ e q. (and_parts (pick e == id) (other e == 0) q).0) in
                  absurd (omega (arith, some, most, b, fewer))),
              λ once. omega (arith, once, fewer),
            );
      }

  -- all rows stand in entries, so they stay
  pub standing_all : (s : Rows) (m : Pairs) → AreHalves pick other s m → standing pick m s ≡ s
  standing_all s m halves =
      let rise : RiseFrom 0 s = rise_more 0 1 s (omega arith) halves.rise in
      ext 0 (standing pick m s) s (filter_rise (λ i. stands pick m i) 0 s rise) rise
      (λ id.
      by_test (stands pick m id)
      (λ q. filter_found (λ i. stands pick m i) s id q)
      (λ q.
      by_option (row_of s id)
      (λ none. filter_lost (λ i. stands pick m i) s id q ∙ sym none)
      (λ row at.
      let some : IsSome (row_of s id) = rw at refl in
      let there = counted_stands m id (halves.each id some) in
      absurd (false≢true (sym q ∙ there)))))
