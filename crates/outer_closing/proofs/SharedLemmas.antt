-- Rows that stand in entries with both halves whose rows stay, and the least of them.
use Rattle.std.proofs.Common.{◌≡◌, ℕ, zero, suc, ◌+◌, ◌<◌, ◌≤◌, ◌==◌, List, [], ◌∷◌, filter, Bool, true, false, ◌&&◌, not, Option, Some, None, refl, ap, sym, ◌∙◌, subst, arith}
use Rattle.std.proofs.lemmas.Bool.{and_from, and_parts, cases_lt, false≢true, ne_eqb}
use mathlib.Core.Logic.{inl, inr}
use Rattle.par_base.specs.declared.value.Value.{Value}
use Rattle.row_store.specs.Rows.{Rows, RiseFrom, row_of}
use Rattle.id_memory.specs.Pairs.{Pairs, RiseFrom as PairsRise}
use Rattle.op_law.specs.Identifiers.{has_id}
use Rattle.row_parts.specs.RowCells.{Cell, by_test}
use Rattle.table_keys.specs.Keys.{keys_by}
use Rattle.table_keys.specs.declared.columns.KeyColumns.TheVariants.{All}
use Rattle.table_keys.proofs.KeyLaws.{keys_all}
use Rattle.key_index.specs.Found.{IsLeastFrom}
use Rattle.pair_rows.specs.declared.half.Half.{Half}
use Rattle.pair_rows.specs.declared.half.Half.TheVariants.{First, Second}
use Rattle.pair_rows.specs.Given.{least}
use Rattle.pair_rows.specs.Getting.{least_found}
use Rattle.pair_rows.specs.Halves.{pick_of}
use Rattle.pair_rows.specs.Stays.{stands}
use Rattle.pair_rows.specs.inner.Lookups.{filter_found, filter_lost, filter_rise}
use Rattle.cond_closing.specs.Entries.{IsEntry, other_of}
use Rattle.cond_closing.specs.Steady.{IsStill, IsStillBy, changed_entries}
use Rattle.cond_closing.proofs.KeyedLaws.{least_low}
use Rattle.cond_closing.proofs.StandLaws.{StandsIn, stands_by, stands_in}
use Rattle.outer_closing.specs.Shared.{shared_in, shared_rows}

abbrev pub Triple : Type 0
Triple = ℕ × ℕ × ℕ

-- an entry with both halves whose row stays
abbrev pub both_there : Triple → Bool
both_there e = not (e.1 == 0) && not (e.2 == 0)

abbrev pub may_share : List ℕ → Triple → Bool
may_share replaced e = not (has_id replaced e.0) && both_there e

-- two tests, one after the other
pub filter_both : (f g : Triple → Bool) (es : Pairs) → filter f (filter g es) ≡ filter (λ e. g e && f e) es
filter_both f g [] = refl
filter_both f g (e ∷ es) =
    let rest = filter_both f g es in
    by_test (g e)
    (λ u. by_test (f e) (λ v. rw u (rw v (ap (λ (xs : Pairs). e ∷ xs) rest))) (λ v. rw u (rw v rest)))
    (λ u. rw u rest)

shared_is : (m : Pairs) (replaced : List ℕ) → shared_in m replaced ≡ filter (may_share replaced) m
shared_is m replaced = filter_both both_there (λ e. not (has_id replaced e.0)) m

-- a row that stands in one
pub shared_entry : (pick : Triple → ℕ) (m : Pairs) (replaced : List ℕ) (q : ℕ) → PairsRise 0 m → stands pick (shared_in m replaced) q ≡ true → StandsIn pick (may_share replaced) m q
shared_entry pick m replaced q rise e = stands_in pick (may_share replaced) 0 m q rise (subst (λ (es : Pairs). stands pick es q ≡ true) (shared_is m replaced) e)

-- and the other way round
pub stands_shared : (pick : Triple → ℕ) (m : Pairs) (replaced : List ℕ) (e : Triple) → IsEntry m e → may_share replaced e ≡ true → stands pick (shared_in m replaced) (pick e) ≡ true
stands_shared pick m replaced e is pass = subst (λ (es : Pairs). stands pick es (pick e) ≡ true) (sym (shared_is m replaced)) (stands_by pick (may_share replaced) m e is pass)

-- halves from one on are there
numbers_there : (a b : ℕ) → 1 ≤ a → 1 ≤ b → (not (a == 0) && not (b == 0)) ≡ true
numbers_there a b one two =
    let u = ne_eqb a 0 (λ e. absurd (omega (arith, one, e))) in
    let v = ne_eqb b 0 (λ e. absurd (omega (arith, two, e))) in
    rw (u, v) refl

pub there_by : (half : Half) (e : Triple) → 1 ≤ pick_of half e → 1 ≤ other_of half e → both_there e ≡ true
there_by First e own other = numbers_there e.1 e.2 own other
there_by Second e own other = numbers_there e.1 e.2 other own

pub from_one : (a : ℕ) → not (a == 0) ≡ true → 1 ≤ a
from_one zero h = absurd (false≢true h)
from_one (suc a) h = omega arith

-- a number that isn't 0
pub one_up : (a : ℕ) → (a ≡ 0 → ⊥) → 1 ≤ a
one_up zero h = absurd (h refl)
one_up (suc a) h = omega arith

pub there_halves : (half : Half) (e : Triple) → both_there e ≡ true → (1 ≤ pick_of half e) × (1 ≤ other_of half e)
there_halves First e h = let parts = and_parts (not (e.1 == 0)) (not (e.2 == 0)) h in (from_one e.1 parts.0, from_one e.2 parts.1)
there_halves Second e h = let parts = and_parts (not (e.1 == 0)) (not (e.2 == 0)) h in (from_one e.2 parts.1, from_one e.1 parts.0)

module _ (half : Half) (m : Pairs) (replaced : List ℕ) where
  -- no such entry has 0 as a half
  pub none_shared : PairsRise 0 m → stands (pick_of half) (shared_in m replaced) 0 ≡ false
  none_shared rise =
      by_test (stands (pick_of half) (shared_in m replaced) 0)
      (λ yes.
      let s = shared_entry (pick_of half) m replaced 0 rise yes in
      let halves = there_halves half s.entry (and_parts (not (has_id replaced s.entry.0)) (both_there s.entry) s.pass).1 in
      let low = halves.0 in
      let has = s.has in
      absurd (omega (arith, low, has)))
      (λ no. no)

  -- an entry with another half from one on, that was found
  pub found_shared : (q p : ℕ) → 1 ≤ q → IsStill half (changed_entries m replaced) q 1 p → stands (pick_of half) (shared_in m replaced) q ≡ true
  found_shared q p low f =
      let has = f.has in
      let there = there_by half f.entry (omega (arith, low, has)) f.behind in
      let pass = and_from (not (has_id replaced f.entry.0)) (both_there f.entry) f.still there in
      subst (λ (x : ℕ). stands (pick_of half) (shared_in m replaced) x ≡ true) f.has (stands_shared (pick_of half) m replaced f.entry f.is pass)

  -- none was found
  pub lost_shared : (q : ℕ) → PairsRise 0 m → IsStillBy half (changed_entries m replaced) q 1 None → stands (pick_of half) (shared_in m replaced) q ≡ false
  lost_shared q rise none =
      by_test (stands (pick_of half) (shared_in m replaced) q)
      (λ yes.
      let s = shared_entry (pick_of half) m replaced q rise yes in
      let parts = and_parts (not (has_id replaced s.entry.0)) (both_there s.entry) s.pass in
      absurd (none s.entry s.is s.has (there_halves half s.entry parts.1).1 parts.0))
      (λ no. no)

-- what is none of those that are there is none
pub none_of : {A : Type 0} (o : Option A) → ((x : A) → o ≡ Some x → ⊥) → o ≡ None
none_of None other = refl
none_of (Some x) other = absurd (other x refl)

-- the search for the least row with some values that stands in one
module _ (half : Half) (m : Pairs) (replaced : List ℕ) (keys : Rows) (values : List Value) (from : ℕ)
    (passed : (id : ℕ) → row_of keys id ≡ Some values → id < from → stands (pick_of half) (shared_in m replaced) id ≡ false) where
  -- it goes on behind a row that doesn't
  pub passed_on : (o : Option ℕ) (id : ℕ) → o ≡ Some id → IsLeastFrom keys values from o → stands (pick_of half) (shared_in m replaced) id ≡ false
      → (q : ℕ) → row_of keys q ≡ Some values → q < id + 1 → stands (pick_of half) (shared_in m replaced) q ≡ false
  passed_on o id some least_it out q at low =
      elim (cases_lt q from) [
        | inl h ↦ passed q at h
        | inr h ↦
            let it = subst (λ (x : Option ℕ). IsLeastFrom keys values from x) some least_it in
            let first = it.2 q h at in
            let same : id ≡ q = omega (arith, first, low) in
            subst (λ (x : ℕ). stands (pick_of half) (shared_in m replaced) x ≡ false) same out
      ]

  -- the rows, and the least one that is looked for
  record IsSought (rows : Rows) (a : ℕ) : Type 0 where
    at : row_of keys a ≡ Some values
    stand : stands (pick_of half) (shared_in m replaced) a ≡ true
    behind : from ≤ a

  sought : RiseFrom 0 keys → (rows : Rows) (a : ℕ) → keys ≡ rows → least (shared_rows half m replaced rows) values ≡ Some a → IsSought rows a
  sought rise rows a same is =
      let test : ℕ → Bool = stands (pick_of half) (shared_in m replaced) in
      let shared_rise = filter_rise test 0 rows (subst (λ (ks : Rows). RiseFrom 0 ks) same rise) in
      let found = least_found 0 (shared_rows half m replaced rows) values a shared_rise is in
      let stand : test a ≡ true = by_test (test a) (λ u. u) (λ u. let none : ◌≡◌ {A = Cell} None (Some values) = sym (filter_lost test rows a u) ∙ found in absurd (cc)) in
      let at : row_of keys a ≡ Some values = ap (λ (ks : Rows). row_of ks a) same ∙ sym (filter_found test rows a stand) ∙ found in
      record {
        at = at;
        stand = stand;
        behind = elim (cases_lt a from) [
          | inl h ↦ absurd (false≢true (sym (passed a at h) ∙ stand))
          | inr h ↦ h
        ];
      }

  pub shared_found : (o : Option ℕ) (id : ℕ) → o ≡ Some id → IsLeastFrom keys values from o → stands (pick_of half) (shared_in m replaced) id ≡ true → RiseFrom 0 keys
      → (rows : Rows) (a : ℕ) → keys ≡ keys_by All rows → least (shared_rows half m replaced rows) values ≡ Some a → Some id ≡ Some a
  shared_found o id some least_it stand rise rows a are is =
      let same : keys ≡ rows = are ∙ keys_all rows in
      let test : ℕ → Bool = stands (pick_of half) (shared_in m replaced) in
      let it = subst (λ (x : Option ℕ). IsLeastFrom keys values from x) some least_it in
      let s = sought rise rows a same is in
      let up = it.2 a s.behind s.at in
      let shared_rise = filter_rise test 0 rows (subst (λ (ks : Rows). RiseFrom 0 ks) same rise) in
      let at : row_of (shared_rows half m replaced rows) id ≡ Some values = filter_found test rows id stand ∙ ap (λ (ks : Rows). row_of ks id) (sym same) ∙ it.1 in
      let down = least_low 0 (shared_rows half m replaced rows) values a id shared_rise is at in
      let one : id ≡ a = omega (arith, up, down) in
      ap Some one

  pub shared_lost : (o : Option ℕ) → o ≡ None → IsLeastFrom keys values from o → RiseFrom 0 keys
      → (rows : Rows) (a : ℕ) → keys ≡ keys_by All rows → least (shared_rows half m replaced rows) values ≡ Some a → ◌≡◌ {A = Option ℕ} None (Some a)
  shared_lost o none least_it rise rows a are is =
      let it = subst (λ (x : Option ℕ). IsLeastFrom keys values from x) none least_it in
      let s = sought rise rows a (are ∙ keys_all rows) is in
      absurd (it a s.behind s.at)
