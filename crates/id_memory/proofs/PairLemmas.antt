-- Entries by ascending pairs: those of one first half.
use Rattle.std.specs.Prelude.{count_by}
use Rattle.std.specs.Ordering.{is_lt, nat_cmp, ordering_then}
use Rattle.std.proofs.Common.{◌≡◌, ℕ, ◌+◌, ◌<◌, ◌≤◌, ◌==◌, List, [], ◌∷◌, Bool, true, false, Some, if◌then◌else◌, Ordering, Less, Equal, Greater, true≢false, refl, sym, ap, ◌∙◌, subst, arith}
use Rattle.std.proofs.lemmas.Bool.{eq-eqb}
use Rattle.std.proofs.lemmas.Cmp.{nat_cmp_total, ranked, tied_itself}
use Rattle.par_base.proofs.TestLaws.{apart_below, apart_above}
use Rattle.ordered_pages.specs.Entries.{AreBehind, Rise, entry_of, entries_from}
use Rattle.ordered_pages.proofs.OrderLaws.{first_from, first_least, first_there, none_from}
use Rattle.id_memory.specs.inner.Orders.{Triple, pair_cmp, pair_order, pair_total}
use Rattle.id_memory.proofs.CountLemmas.{count_no, count_yes}

-- how first halves stand where pairs do
less_by : (m n a b : ℕ) (r : Ordering) → r ≡ nat_cmp m a → ordering_then r (nat_cmp n b) ≡ Less → m ≤ a
less_by m n a b Less is h = omega (arith, ranked m a Less is)
less_by m n a b Equal is h = omega (arith, ranked m a Equal is)
less_by m n a b Greater is h = let no : Greater ≡ Less = h in cc

first_upto : (m n a b : ℕ) → pair_cmp (m, n) (a, b) ≡ Less → m ≤ a
first_upto m n a b h = less_by m n a b (nat_cmp m a) refl h

not_less_by : (m n a b : ℕ) (r : Ordering) → r ≡ nat_cmp m a → is_lt (ordering_then r (nat_cmp n b)) ≡ false → a ≤ m
not_less_by m n a b Less is h = absurd (true≢false h)
not_less_by m n a b Equal is h = omega (arith, ranked m a Equal is)
not_less_by m n a b Greater is h = omega (arith, ranked m a Greater is)

first_from_on : (m n a b : ℕ) → is_lt (pair_cmp (m, n) (a, b)) ≡ false → a ≤ m
first_from_on m n a b h = not_less_by m n a b (nat_cmp m a) refl h

none_below : (n : ℕ) (r : Ordering) → r ≡ nat_cmp n 0 → is_lt r ≡ false
none_below n Less is = absurd (omega (arith, ranked n 0 Less is))
none_below n Equal is = refl
none_below n Greater is = refl

under_by : (m n a : ℕ) (r : Ordering) → r ≡ nat_cmp m a → is_lt (ordering_then r (nat_cmp n 0)) ≡ true → m < a
under_by m n a Less is h = ranked m a Less is
under_by m n a Equal is h = absurd (true≢false (sym h ∙ none_below n (nat_cmp n 0) refl))
under_by m n a Greater is h = absurd (true≢false (sym h))

first_under : (m n a : ℕ) → is_lt (pair_cmp (m, n) (a, 0)) ≡ true → m < a
first_under m n a h = under_by m n a (nat_cmp m a) refl h

-- at one first half the second ones decide
at_first : (a q n : ℕ) → pair_cmp (a, q) (a, n) ≡ nat_cmp q n
at_first a q n = ap (λ (r : Ordering). ordering_then r (nat_cmp q n)) (tied_itself nat_cmp_total a)

not_under : (r : Ordering) (q n : ℕ) → r ≡ nat_cmp q n → n ≤ q → is_lt r ≡ false
not_under Less q n is h = absurd (omega (arith, h, ranked q n Less is))
not_under Equal q n is h = refl
not_under Greater q n is h = refl

reached : (r : Ordering) (q n : ℕ) → r ≡ nat_cmp q n → is_lt r ≡ false → n ≤ q
reached Less q n is h = absurd (true≢false h)
reached Equal q n is h = omega (arith, ranked q n Equal is)
reached Greater q n is h = omega (arith, ranked q n Greater is)

second_from : (a q n : ℕ) → n ≤ q → is_lt (pair_cmp (a, q) (a, n)) ≡ false
second_from a q n h = ap is_lt (at_first a q n) ∙ not_under (nat_cmp q n) q n refl h

second_least : (a q n : ℕ) → is_lt (pair_cmp (a, q) (a, n)) ≡ false → n ≤ q
second_least a q n h = reached (nat_cmp q n) q n refl (sym (ap is_lt (at_first a q n)) ∙ h)

-- the first halves are from this one on
abbrev AreFrom : ℕ → List Triple → Type 0
AreFrom a [] = Unit {0}
AreFrom a (x ∷ xs) = (a ≤ x.0) × AreFrom a xs

from_behind : (a m n : ℕ) (xs : List Triple) → a ≤ m → AreBehind pair_order (m, n) xs → AreFrom a xs
from_behind a m n [] h behind = tt
from_behind a m n (x ∷ xs) h behind = (omega (arith, h, first_upto m n x.0 x.1 behind.0), from_behind a m n xs h behind.1)

none_above : (a b : ℕ) (xs : List Triple) → a < b → AreFrom b xs → count_by (λ x. x.0 == a) xs ≡ 0
none_above a b [] h from = refl
none_above a b (x ∷ xs) h from = count_no (λ x. x.0 == a) x xs (apart_above x.0 a (omega (arith, h, from.0))) ∙ none_above a b xs h from.1

-- where one of another first half comes, none of this one is left
none_left : (a : ℕ) (x : Triple) (xs : List Triple) → Rise pair_order (x ∷ xs) → AreFrom a (x ∷ xs) → (x.0 ≡ a → ⊥) → count_by (λ x. x.0 == a) (x ∷ xs) ≡ 0
none_left a x xs rise from other =
    let above : a + 1 ≤ x.0 = omega (arith, from.0, other) in
    none_above a (a + 1) (x ∷ xs) (omega arith) (above, from_behind (a + 1) x.0 x.1 xs above rise.0)

-- THE ENTRIES FROM A FIRST HALF ON that are left, after so many: they rise, are from it on, and have the others of it
pub record IsRun (a n : ℕ) (es left : List Triple) : Type 0 where
  pub rise : Rise pair_order left
  pub from : AreFrom a left
  pub all : n + count_by (λ x. x.0 == a) left ≡ count_by (λ x. x.0 == a) es

run_by : (a : ℕ) (e : Triple) (es : List Triple) (b : Bool) → is_lt (pair_cmp (e.0, e.1) (a, 0)) ≡ b → Rise pair_order (e ∷ es) → IsRun a 0 es (entries_from pair_order es (a, 0))
    → IsRun a 0 (e ∷ es) (if b then entries_from pair_order es (a, 0) else e ∷ es)
run_by a e es true is rise rest =
    record { rise = rest.rise; from = rest.from; all = rest.all ∙ sym (count_no (λ x. x.0 == a) e es (apart_below e.0 a (first_under e.0 e.1 a is))) }
run_by a e es false is rise rest =
    let low = first_from_on e.0 e.1 a 0 is in
    record { rise = rise; from = (low, from_behind a e.0 e.1 es low rise.0); all = omega arith }

pub run_is : (a : ℕ) (es : List Triple) → Rise pair_order es → IsRun a 0 es (entries_from pair_order es (a, 0))
run_is a [] rise = record { rise = tt; from = tt; all = omega arith }
run_is a (e ∷ es) rise = run_by a e es (is_lt (pair_cmp (e.0, e.1) (a, 0))) refl rise (run_is a es rise.1)

-- one more of it
pub run_next : (a n : ℕ) (es left : List Triple) (x : Triple) → IsRun a n es (x ∷ left) → x.0 ≡ a → IsRun a (n + 1) es left
run_next a n es left x run own =
    record { rise = run.rise.1; from = run.from.1; all = omega (arith, run.all, count_yes (λ x. x.0 == a) x left (eq-eqb x.0 a own)) }

-- where one of another first half comes, all were counted
pub run_ends : (a n : ℕ) (es left : List Triple) (x : Triple) → IsRun a n es (x ∷ left) → (x.0 ≡ a → ⊥) → n ≡ count_by (λ x. x.0 == a) es
run_ends a n es left x run other = omega (arith, run.all, none_left a x left run.rise run.from other)

-- the first entry from a pair on
module _ (es : List Triple) (a n : ℕ) (rise : Rise pair_order es) where
  pub first_is : (e : Triple) (rest : List Triple) → entries_from pair_order es (a, n) ≡ e ∷ rest → e.0 ≡ a
      → (n ≤ e.1) × (entry_of pair_order es (a, e.1) ≡ Some (a, e.1, e.2)) × ((b c : ℕ) → n ≤ b → entry_of pair_order es (a, b) ≡ Some (a, b, c) → e.1 ≤ b)
  first_is e rest from same =
      let low : is_lt (pair_cmp (a, e.1) (a, n)) ≡ false = subst (λ (k : ℕ). is_lt (pair_cmp (k, e.1) (a, n)) ≡ false) same (first_from pair_order pair_total es (a, n) e rest from) in
      let there = first_there pair_order pair_total es (a, n) e rest rise from in (
        second_least a e.1 n low,
        subst (λ (k : ℕ). entry_of pair_order es (k, e.1) ≡ Some (k, e.1, e.2)) same there,
        λ b c h is.
            let up = first_least pair_order pair_total es (a, n) (a, b) e rest (a, b, c) rise from is (second_from a b n h) in
            second_least a b e.1 (subst (λ (k : ℕ). is_lt (pair_cmp (a, b) (k, e.1)) ≡ false) same up),
      )

  pub first_other : (e : Triple) (rest : List Triple) → entries_from pair_order es (a, n) ≡ e ∷ rest → (e.0 ≡ a → ⊥) → (b c : ℕ) → n ≤ b → entry_of pair_order es (a, b) ≡ Some (a, b, c) → ⊥
  first_other e rest from other b c h is =
      let low = first_from_on e.0 e.1 a n (first_from pair_order pair_total es (a, n) e rest from) in
      let up = first_from_on a b e.0 e.1 (first_least pair_order pair_total es (a, n) (a, b) e rest (a, b, c) rise from is (second_from a b n h)) in
      other (omega (arith, low, up))

  pub none_is : entries_from pair_order es (a, n) ≡ [] → (b c : ℕ) → n ≤ b → entry_of pair_order es (a, b) ≡ Some (a, b, c) → ⊥
  none_is from b c h is =
      let under = none_from pair_order pair_total es (a, n) (a, b) (a, b, c) from is in
      true≢false (sym (ap is_lt under) ∙ second_from a b n h)
