-- The entries of a memory, and the next one of an identifier.
use Rattle.std.proofs.Common.{◌≡◌, ◌⊎◌, ℕ, ◌+◌, ◌<◌, ◌≤◌, ◌==◌, List, [], ◌∷◌, ◌++◌, true, false, Option, Some, None, refl, ap, sym, ◌∙◌, subst, arith}
use Rattle.std.proofs.lemmas.Bool.{cases_lt, eqb-true, eq-eqb, ne_eqb}
use mathlib.Core.Logic.{inl, inr}
use Rattle.id_memory.specs.Pairs.{Pairs, RiseFrom, IsOneToOne, id_of, pair_of}
use Rattle.id_memory.specs.Laws.{OtherWay}
use Rattle.id_memory.specs.Found.{IsLeastFrom}
use Rattle.op_law.specs.Identifiers.{has_id}
use Rattle.op_law.proofs.OnlyLaws.{by_test}
use Rattle.pair_rows.specs.declared.half.Half.{Half}
use Rattle.pair_rows.specs.declared.half.Half.TheVariants.{First, Second}
use Rattle.pair_rows.specs.Halves.{pick_of}
use Rattle.id_closing.proofs.FoundLaws.{end_has, end_stays}
use Rattle.cond_closing.specs.Entries.{IsEntry, IsFirstWith, IsNextWith, NoneWith, other_of}

abbrev pub Triple : Type 0
Triple = ℕ × ℕ × ℕ

-- the first entry is one
pub own_entry : (e : Triple) (es : Pairs) → IsEntry (e ∷ es) e
own_entry e es = let own = eq-eqb e.0 e.0 refl in rw own refl

-- an entry is of an identifier from the first on
pub entry_from : (n : ℕ) (es : Pairs) (d : Triple) → RiseFrom n es → IsEntry es d → n ≤ d.0
entry_from n [] d rise is = absurd (cc)
entry_from n (e ∷ es) d rise is =
    by_test (e.0 == d.0)
    (λ q. let same = eqb-true e.0 d.0 q in omega (arith, rise.0, same))
    (λ q. let rest : IsEntry es d = rw q at is in omega (arith, rise.0, entry_from (e.0 + 1) es d rise.1 rest))

-- a later one is one
pub later_entry : (e : Triple) (es : Pairs) (d : Triple) → RiseFrom (e.0 + 1) es → IsEntry es d → IsEntry (e ∷ es) d
later_entry e es d rise is =
    let above = entry_from (e.0 + 1) es d rise is in
    let other : (e.0 == d.0) ≡ false = ne_eqb e.0 d.0 (λ q. absurd (omega (arith, above, q))) in
    rw other is

-- either of a pair that is there
abbrev pub first_in : Option (ℕ × ℕ) → ℕ
first_in None = 0
first_in (Some pair) = pair.0

abbrev pub second_in : Option (ℕ × ℕ) → ℕ
second_in None = 0
second_in (Some pair) = pair.1

-- entries of one identifier are one
pub same_entry : (e : Triple) (es : Pairs) (d : Triple) → (e.0 == d.0) ≡ true → IsEntry (e ∷ es) d → e ≡ d
same_entry e es d q is =
    let some : Some (e.1, e.2) ≡ Some (d.1, d.2) = rw q at is in
    let first : e.1 ≡ d.1 = ap first_in some in
    let second : e.2 ≡ d.2 = ap second_in some in
    ap (λ (k : ℕ). (k, e.1, e.2)) (eqb-true e.0 d.0 q) ∙ ap (λ (k : ℕ). (d.0, k, e.2)) first ∙ ap (λ (k : ℕ). (d.0, d.1, k)) second

-- one identifier alone has a pair
one_id : OtherWay → (m : Pairs) → RiseFrom 0 m → IsOneToOne m → (d e : Triple) → IsEntry m d → IsEntry m e → d.1 ≡ e.1 → d.2 ≡ e.2 → d.0 ≡ e.0
one_id other m rise one d e is_d is_e first second =
    let here : pair_of m d.0 ≡ Some (e.1, e.2) = is_d ∙ ap (λ (k : ℕ). Some (k, d.2)) first ∙ ap (λ (k : ℕ). Some (e.1, k)) second in
    let f : id_of m e.1 e.2 ≡ Some d.0 = (other m rise one d.0 e.1 e.2).1 here in
    let g : id_of m e.1 e.2 ≡ Some e.0 = (other m rise one e.0 e.1 e.2).1 is_e in
    let same : Some d.0 ≡ Some e.0 = sym f ∙ g in
    cc

-- what a look-up by one half finds is the next entry
module _ (other : OtherWay) (m : Pairs) (rise : RiseFrom 0 m) (alone : IsOneToOne m) where
  -- by the first half
  with_first : (s : ℕ) (d : Triple) → IsEntry m d → d.1 ≡ s → pair_of m d.0 ≡ Some (s, d.2)
  with_first s d is own = is ∙ ap (λ (k : ℕ). Some (k, d.2)) own

  pub first_is : (s from : ℕ) (found : Option (ℕ × ℕ)) (pair : ℕ × ℕ) → found ≡ Some pair → IsLeastFrom (λ t p. pair_of m p ≡ Some (s, t)) from found → IsFirstWith First m s from (pair.1, s, pair.0)
  first_is s from found pair some least =
      let it = subst (λ (o : Option (ℕ × ℕ)). IsLeastFrom (λ t p. pair_of m p ≡ Some (s, t)) from o) some least in
      record {
        is = it.1;
        has = refl;
        behind = it.0;
        least = λ d entry own low. it.2 d.2 d.0 low (with_first s d entry own);
        one = λ d entry own same. one_id other m rise alone d (pair.1, s, pair.0) entry it.1 own same;
      }

  pub first_none : (s from : ℕ) (found : Option (ℕ × ℕ)) → found ≡ None → IsLeastFrom (λ t p. pair_of m p ≡ Some (s, t)) from found → NoneWith First m s from
  first_none s from found is least d entry own low =
      let none = subst (λ (o : Option (ℕ × ℕ)). IsLeastFrom (λ t p. pair_of m p ≡ Some (s, t)) from o) is least in
      none d.2 d.0 low (with_first s d entry own)

  -- by the second half
  with_second : (t : ℕ) (d : Triple) → IsEntry m d → d.2 ≡ t → pair_of m d.0 ≡ Some (d.1, t)
  with_second t d is own = is ∙ ap (λ (k : ℕ). Some (d.1, k)) own

  pub second_is : (t from : ℕ) (found : Option (ℕ × ℕ)) (pair : ℕ × ℕ) → found ≡ Some pair → IsLeastFrom (λ s p. pair_of m p ≡ Some (s, t)) from found → IsFirstWith Second m t from (pair.1, pair.0, t)
  second_is t from found pair some least =
      let it = subst (λ (o : Option (ℕ × ℕ)). IsLeastFrom (λ s p. pair_of m p ≡ Some (s, t)) from o) some least in
      record {
        is = it.1;
        has = refl;
        behind = it.0;
        least = λ d entry own low. it.2 d.1 d.0 low (with_second t d entry own);
        one = λ d entry own same. one_id other m rise alone d (pair.1, pair.0, t) entry it.1 same own;
      }

  pub second_none : (t from : ℕ) (found : Option (ℕ × ℕ)) → found ≡ None → IsLeastFrom (λ s p. pair_of m p ≡ Some (s, t)) from found → NoneWith Second m t from
  second_none t from found is least d entry own low =
      let none = subst (λ (o : Option (ℕ × ℕ)). IsLeastFrom (λ s p. pair_of m p ≡ Some (s, t)) from o) is least in
      none d.1 d.0 low (with_second t d entry own)

-- THE NEXT ENTRY of q as this half, and those before it
module _ (half : Half) (m : Pairs) (q from : ℕ) (e : Triple) (found : Option Triple) (some : found ≡ Some e) (next : IsNextWith half m q from found) where
  pub it_is : IsFirstWith half m q from e
  it_is = subst (λ (o : Option Triple). IsNextWith half m q from o) some next

  -- an entry up to it is before, or it
  pub up_to : (d : Triple) → IsEntry m d → pick_of half d ≡ q → other_of half d < other_of half e + 1 → (other_of half d < from) ⊎ (d.0 ≡ e.0)
  up_to d is has low =
      elim (cases_lt (other_of half d) from) [
        | inl h ↦ inl h
        | inr h ↦ let least = it_is.least d is has h in inr (it_is.one d is has (omega (arith, least, low)))
      ]

  -- their identifiers with its own one
  pub entries_more : (ids : List ℕ) → ((d : Triple) → IsEntry m d → pick_of half d ≡ q → other_of half d < from → has_id ids d.0 ≡ true)
      → (d : Triple) → IsEntry m d → pick_of half d ≡ q → other_of half d < other_of half e + 1 → has_id (ids ++ e.0 ∷ []) d.0 ≡ true
  entries_more ids has d is own low =
      elim (up_to d is own low) [
        | inl before ↦ end_stays ids e.0 d.0 (has d is own before)
        | inr same ↦ subst (λ (x : ℕ). has_id (ids ++ e.0 ∷ []) x ≡ true) (sym same) (end_has ids e.0)
      ]
