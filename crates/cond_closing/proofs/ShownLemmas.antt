-- What a write of S and T begins with, as it grows.
use Rattle.std.proofs.Common.{◌≡◌, ℕ, ◌+◌, ◌<◌, ◌≤◌, ◌==◌, List, [], ◌∷◌, ◌++◌, Bool, true, false, cond, length, take, get_or, refl, sym, subst}
use Rattle.std.proofs.lemmas.List.{take_more, take_all}
use mathlib.Core.Logic.{inl, inr}
use Rattle.par_base.specs.declared.value.Value.{Value}
use Rattle.row_store.specs.Rows.{Rows}
use Rattle.id_memory.specs.Pairs.{Pairs}
use Rattle.op_law.specs.Identifiers.{has_id}
use Rattle.op_law.proofs.OnlyLaws.{by_test}
use Rattle.row_changes.specs.Changed.{TableChanges}
use Rattle.pair_rows.specs.declared.half.Half.{Half}
use Rattle.pair_rows.specs.declared.half.Half.TheVariants.{First, Second}
use Rattle.pair_rows.specs.Shown.{Joining}
use Rattle.id_closing.specs.Found.{AreAmong}
use Rattle.id_closing.specs.Told.{OfNew, changes_at}
use Rattle.id_closing.proofs.FoundLaws.{end_is}
use Rattle.id_closing.proofs.ToldLaws.{all_then}
use Rattle.cond_closing.specs.Entries.{HasEntries}
use Rattle.cond_closing.specs.Matching.{FindsMatches, FindsMatchesAt}
use Rattle.cond_closing.specs.Shown.{number_of, BeginsAt, BeginsShown, EachOf}

-- one identifier more
pub each_next : (P : ℕ → Type 0) (ids : List ℕ) (i : ℕ) → i < length ids → EachOf (take i ids) P → P (get_or ids i 0) → EachOf (take (i + 1) ids) P
each_next P ids i within all one q h =
    elim (end_is (take i ids) (get_or ids i 0) q (subst (λ (xs : List ℕ). has_id xs q ≡ true) (take_more ids i 0 within) h)) [
      | inl old ↦ all q old
      | inr same ↦ subst P same one
    ]

pub each_end : (P : ℕ → Type 0) (ids : List ℕ) (n : ℕ) → length ids ≤ n → EachOf (take n ids) P → EachOf ids P
each_end P ids n past all q h = all q (subst (λ (xs : List ℕ). has_id xs q ≡ true) (sym (take_all n ids past)) h)

-- whether a list has an identifier with one at its end
pub end_eq : (xs : List ℕ) (x q : ℕ) → has_id (xs ++ x ∷ []) q ≡ cond (x == q) true (has_id xs q)
end_eq [] x q = refl
end_eq (y ∷ ys) x q = by_test (y == q) (λ e. rw e (sym (either_true (x == q)))) (λ e. rw e (end_eq ys x q))
  where
    either_true : (b : Bool) → cond b true true ≡ true
    either_true true = refl
    either_true false = refl

-- what is found is among more
module _ (some all : List ℕ) (among : AreAmong some all) where
  pub entries_among : (half : Half) (m : Pairs) (q : ℕ) → HasEntries half m some q → HasEntries half m all q
  entries_among half m q has e is own = among e.0 (has e is own)

  module _ (j : Joining) (knows : Rows → Rows → Type 0) (half : Half) where
    pub finds_among : (row : List Value) → FindsMatches j knows half some row → FindsMatches j knows half all row
    finds_among row finds s t known b other at met = among b (finds s t known b other at met)

    pub finds_at_among : (id : ℕ) → FindsMatchesAt j knows half some id → FindsMatchesAt j knows half all id
    finds_at_among id finds s t row known at b other at_other met = among b (finds s t row known at b other at_other met)

    pub begins_among : (near : TableChanges) → BeginsAt j knows half near some → BeginsAt j knows half near all
    begins_among near begins = record {
      news = all_then (OfNew (FindsMatches j knows half some)) (OfNew (FindsMatches j knows half all)) (changes_at near (number_of half)) (λ c has row e. finds_among row (has row e)) begins.news;
      others = λ q named free. finds_at_among q (begins.others q named free);
    }

-- all that changes of S and T begin with
pub shown_among : (some all : List ℕ) → AreAmong some all → (j : Joining) (knows : Rows → Rows → Type 0) (m : Pairs) (near : TableChanges) → BeginsShown j knows m near some → BeginsShown j knows m near all
shown_among some all among j knows m near b = record {
  named = λ q h. among q (b.named q h);
  first_entries = λ q h. entries_among some all among First m q (b.first_entries q h);
  second_entries = λ q h. entries_among some all among Second m q (b.second_entries q h);
  first = begins_among some all among j knows First near b.first;
  second = begins_among some all among j knows Second near b.second;
}
