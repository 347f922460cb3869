-- What an identifier brings, from what is found for it.
use Rattle.std.proofs.Common.{◌≡◌, ℕ, ◌+◌, ◌<◌, ◌≤◌, List, [], ◌∷◌, ◌++◌, true, false, Option, Some, None, refl, ap, sym, ◌∙◌, subst, arith}
use Rattle.std.proofs.lemmas.Bool.{cases_lt, false≢true}
use mathlib.Core.Logic.{inl, inr}
use Rattle.id_memory.specs.Pairs.{Pairs, pair_of}
use Rattle.op_law.specs.Identifiers.{has_id}
use Rattle.pair_rows.specs.declared.half.Half.{Half}
use Rattle.pair_rows.specs.declared.half.Half.TheVariants.{First, Second}
use Rattle.pair_rows.specs.Halves.{pick_of}
use Rattle.id_closing.specs.Found.{added}
use Rattle.id_closing.proofs.FoundLaws.{added_has, added_stays, end_has, end_stays}
use Rattle.cond_closing.specs.Entries.{IsEntry, IsNextWith, NoneWith, other_of}
use Rattle.cond_closing.specs.Steady.{BringsBoth, BringsStill, ChangingMemory, IsBrought, IsStill, IsStillBy, stays}
use Rattle.cond_closing.proofs.BroughtLaws.{brings_found}
use Rattle.cond_closing.proofs.EntryLemmas.{first_in, it_is, second_in, Triple, up_to}
use Rattle.cond_closing.proofs.StandLaws.{entry_same}

-- both rows of an entry, added
pub both_added : (m : Pairs) (q a b : ℕ) (ids : List ℕ) → pair_of m q ≡ Some (a, b) → BringsBoth m q ((ids ++ a ∷ []) ++ b ∷ [])
both_added m q a b ids at x y is =
    let some : Some (a, b) ≡ Some (x, y) = sym at ∙ is in
    let first : a ≡ x = ap first_in some in
    let second : b ≡ y = ap second_in some in (
      end_stays (ids ++ a ∷ []) b x (subst (λ (k : ℕ). has_id (ids ++ a ∷ []) k ≡ true) first (end_has ids a)),
      subst (λ (k : ℕ). has_id ((ids ++ a ∷ []) ++ b ∷ []) k ≡ true) second (end_has (ids ++ a ∷ []) b),
    )

-- the next entry that isn't changed, where those before it are
module _ (half : Half) (it : ChangingMemory) (q start from : ℕ) (passed : (d : Triple) → IsEntry it.entries d → pick_of half d ≡ q → start ≤ other_of half d → other_of half d < from → stays it d ≡ false) where
  pub passed_more : (e : Triple) (found : Option Triple) → found ≡ Some e → IsNextWith half it.entries q from found → stays it e ≡ false
      → (d : Triple) → IsEntry it.entries d → pick_of half d ≡ q → start ≤ other_of half d → other_of half d < other_of half e + 1 → stays it d ≡ false
  passed_more e found some next not_still d is own begins low =
      elim (up_to half it.entries q from e found some next d is own low) [
        | inl before ↦ passed d is own begins before
        | inr same ↦ ap (stays it) (entry_same it.entries d e is (it_is half it.entries q from e found some next).is same) ∙ not_still
      ]

  pub still_found : (e : Triple) (found : Option Triple) → found ≡ Some e → IsNextWith half it.entries q from found → start ≤ from → stays it e ≡ true → IsStill half it q start e.0
  still_found e found some next low still =
      let f = it_is half it.entries q from e found some next in
      let behind = f.behind in
      record { entry = e; own = refl; is = f.is; has = f.has; behind = omega (arith, low, behind); still = still }

  -- the search goes on behind it
  pub still_behind : (e : Triple) (found : Option Triple) → found ≡ Some e → IsNextWith half it.entries q from found → start ≤ from → start ≤ other_of half e + 1
  still_behind e found some next low = let behind = (it_is half it.entries q from e found some next).behind in omega (arith, low, behind)

  pub still_none : NoneWith half it.entries q from → (e : Triple) → IsEntry it.entries e → pick_of half e ≡ q → start ≤ other_of half e → stays it e ≡ true → ⊥
  still_none none e is own begins still =
      elim (cases_lt (other_of half e) from) [
        | inl h ↦ false≢true (sym (passed e is own begins h) ∙ still)
        | inr h ↦ none e is own h
      ]

-- what is none of those that are there is none
pub none_of : {A : Type 0} (o : Option A) → ((x : A) → o ≡ Some x → ⊥) → o ≡ None
none_of None other = refl
none_of (Some x) other = absurd (other x refl)

module _ (it : ChangingMemory) (q : ℕ) where
  -- WHAT IS FOUND IS WHAT IS BROUGHT
  pub found_is_brought : (ids : List ℕ) (a c : Option ℕ) → BringsBoth it.entries q ids → IsStillBy First it q 0 a → IsStillBy Second it q 0 c → IsBrought it q (added (added ids a) c)
  found_is_brought ids a c both first second = record {
    rows = λ x y at.
        let f = both x y at in
        (added_stays (added ids a) c x (added_stays ids a x f.0), added_stays (added ids a) c y (added_stays ids a y f.1));
    first = brings_found it q First a (added (added ids a) c) (λ g e. added_stays (added ids a) c g (added_has ids a g e)) first;
    second = brings_found it q Second c (added (added ids a) c) (λ g e. added_has (added ids a) c g e) second;
  }
