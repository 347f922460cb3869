-- Keys in a total order, and entries by ascending keys.
use Rattle.std.specs.Ordering.{is_eq, is_lt, ordering_reverse}
use Rattle.std.proofs.Common.{◌≡◌, ◌⊎◌, List, [], ◌∷◌, ◌++◌, Bool, true, false, Option, Some, None, if◌then◌else◌, Ordering, Less, Equal, Greater, inl, inr, true≢false, refl, sym, ap, ◌∙◌, subst}
use Rattle.std.proofs.lemmas.Cmp.{tied_itself}
use Rattle.par_base.proofs.TestLaws.{swap_tests, twice}
use Rattle.ordered_pages.specs.Orders.{Order, IsTotal}
use Rattle.ordered_pages.specs.Entries.{AreBefore, AreBehind, Rise, entry_of, entries_from, PutsAt}

pub is_equal : (r : Ordering) → is_eq r ≡ true → r ≡ Equal
is_equal Less h = cc
is_equal Equal h = refl
is_equal Greater h = cc

pub is_less : (r : Ordering) → is_lt r ≡ true → r ≡ Less
is_less Less h = refl
is_less Equal h = cc
is_less Greater h = cc

equal_or_greater : (r : Ordering) → is_lt r ≡ false → (r ≡ Equal) ⊎ (r ≡ Greater)
equal_or_greater Less h = cc
equal_or_greater Equal h = inl refl
equal_or_greater Greater h = inr refl

none_at : {A : Type 0} (a : Bool) (z : Option A) (y : A) → (a ≡ true → z ≡ None) → z ≡ (if a then None else (if a then Some y else z))
none_at true z y h = h refl
none_at false z y h = refl

none_there : {A : Type 0} (a : Bool) (z : Option A) → (a ≡ true → z ≡ None) → z ≡ (if a then None else z)
none_there true z h = h refl
none_there false z h = refl

if_cases : {A : Type 0} (b : Bool) (x y z : A) → (if b then x else y) ≡ z → ((b ≡ true) × (x ≡ z)) ⊎ ((b ≡ false) × (y ≡ z))
if_cases true x y z h = inl (refl, h)
if_cases false x y z h = inr (refl, h)

module _ {E K : Type 0} (o : Order E K) (l : IsTotal o) where
  pub passes : (a b c : K) → o.cmp a b ≡ Less → o.cmp b c ≡ Less → o.cmp a c ≡ Less
  passes a b c h i = l.total.trans a b c h i

  pub greater : (a b : K) → o.cmp a b ≡ Less → o.cmp b a ≡ Greater
  greater a b h = l.total.antisymm b a ∙ ap ordering_reverse h

  pub less : (a b : K) → o.cmp a b ≡ Greater → o.cmp b a ≡ Less
  less a b h = l.total.antisymm b a ∙ ap ordering_reverse h

  pub itself : (a : K) → o.cmp a a ≡ Equal
  itself a = tied_itself l.total a

  pub equal_is : (a b : K) → a ≡ b → o.cmp a b ≡ Equal
  equal_is a b h = subst (λ (c : K). o.cmp a c ≡ Equal) h (itself a)

  pub same_key : (a b : K) → is_eq (o.cmp a b) ≡ true → a ≡ b
  same_key a b h = l.same a b (is_equal (o.cmp a b) h)

  -- what comes before a key comes before those behind it
  pub before_more : (k j : K) (es : List E) → AreBefore o es k → o.cmp k j ≡ Less → AreBefore o es j
  before_more k j [] before h = tt
  before_more k j (e ∷ es) before h = (passes (o.key e) k j before.0 h, before_more k j es before.1 h)

  pub behind_more : (k j : K) (es : List E) → o.cmp k j ≡ Less → AreBehind o j es → AreBehind o k es
  behind_more k j [] h behind = tt
  behind_more k j (e ∷ es) h behind = (passes k j (o.key e) h behind.0, behind_more k j es h behind.1)

  pub before_upto : (k j : K) (es : List E) → AreBefore o es k → is_lt (o.cmp j k) ≡ false → AreBefore o es j
  before_upto k j es before h =
      elim (equal_or_greater (o.cmp j k) h) [
        | inl e ↦ subst (λ (c : K). AreBefore o es c) (sym (l.same j k e)) before
        | inr e ↦ before_more k j es before (less j k e)
      ]

  pub before_append : (k : K) (xs ys : List E) → AreBefore o xs k → AreBefore o ys k → AreBefore o (xs ++ ys) k
  before_append k [] ys first second = second
  before_append k (x ∷ xs) ys first second = (first.0, before_append k xs ys first.1 second)

  pub behind_append : (k : K) (xs ys : List E) → AreBehind o k xs → AreBehind o k ys → AreBehind o k (xs ++ ys)
  behind_append k [] ys first second = second
  behind_append k (x ∷ xs) ys first second = (first.0, behind_append k xs ys first.1 second)

  behind_front : (k : K) (xs ys : List E) → AreBehind o k (xs ++ ys) → AreBehind o k xs
  behind_front k [] ys behind = tt
  behind_front k (x ∷ xs) ys behind = (behind.0, behind_front k xs ys behind.1)

  behind_at : (k : K) (xs ys : List E) (e : E) → AreBehind o k (xs ++ e ∷ ys) → o.cmp k (o.key e) ≡ Less
  behind_at k [] ys e behind = behind.0
  behind_at k (x ∷ xs) ys e behind = behind_at k xs ys e behind.1

  -- entries that rise, in parts
  pub rise_front : (xs ys : List E) → Rise o (xs ++ ys) → Rise o xs
  rise_front [] ys rise = tt
  rise_front (x ∷ xs) ys rise = (behind_front (o.key x) xs ys rise.0, rise_front xs ys rise.1)

  pub rise_back : (xs ys : List E) → Rise o (xs ++ ys) → Rise o ys
  rise_back [] ys rise = rise
  rise_back (x ∷ xs) ys rise = rise_back xs ys rise.1

  pub before_first : (xs ys : List E) (e : E) → Rise o (xs ++ e ∷ ys) → AreBefore o xs (o.key e)
  before_first [] ys e rise = tt
  before_first (x ∷ xs) ys e rise = (behind_at (o.key x) xs ys e rise.0, before_first xs ys e rise.1)

  pub rise_with : (xs ys : List E) (e : E) → Rise o xs → AreBefore o xs (o.key e) → AreBehind o (o.key e) ys → Rise o ys → Rise o (xs ++ e ∷ ys)
  rise_with [] ys e first before behind second = (behind, second)
  rise_with (x ∷ xs) ys e first before behind second =
      (behind_append (o.key x) xs (e ∷ ys) first.0 (before.0, behind_more (o.key x) (o.key e) ys before.0 behind), rise_with xs ys e first.1 before.1 behind second)

  pub rise_join : (xs ys : List E) (k : K) → Rise o xs → AreBefore o xs k → AreBehind o k ys → Rise o ys → Rise o (xs ++ ys)
  rise_join [] ys k first before behind second = second
  rise_join (x ∷ xs) ys k first before behind second =
      (behind_append (o.key x) xs ys first.0 (behind_more (o.key x) k ys before.0 behind), rise_join xs ys k first.1 before.1 behind second)

  -- the entry of a key, past those before it and without those behind it
  pub entry_past : (xs ys : List E) (k : K) → AreBefore o xs k → entry_of o (xs ++ ys) k ≡ entry_of o ys k
  entry_past [] ys k before = refl
  entry_past (x ∷ xs) ys k before = rw before.0 (entry_past xs ys k before.1)

  pub entry_behind : (es : List E) (k : K) → AreBehind o k es → entry_of o es k ≡ None
  entry_behind [] k behind = refl
  entry_behind (e ∷ es) k behind = let other = greater k (o.key e) behind.0 in rw other (entry_behind es k behind.1)

  pub entry_front : (xs ys : List E) (k : K) → AreBehind o k ys → entry_of o (xs ++ ys) k ≡ entry_of o xs k
  entry_front [] ys k behind = entry_behind ys k behind
  entry_front (x ∷ xs) ys k behind = ap (λ (rest : Option E). if is_eq (o.cmp (o.key x) k) then Some x else rest) (entry_front xs ys k behind)

  pub entry_here : (es : List E) (e : E) (k : K) → o.key e ≡ k → entry_of o (e ∷ es) k ≡ Some e
  entry_here es e k is = let same = equal_is (o.key e) k is in rw same refl

  -- the entries from a key on
  pub from_past : (xs ys : List E) (k : K) → AreBefore o xs k → entries_from o (xs ++ ys) k ≡ entries_from o ys k
  from_past [] ys k before = refl
  from_past (x ∷ xs) ys k before = rw before.0 (from_past xs ys k before.1)

  pub from_behind : (es : List E) (k : K) → AreBehind o k es → entries_from o es k ≡ es
  from_behind [] k behind = refl
  from_behind (e ∷ es) k behind = let other = greater k (o.key e) behind.0 in rw other refl

  pub from_here : (es : List E) (e : E) (k : K) → o.key e ≡ k → entries_from o (e ∷ es) k ≡ e ∷ es
  from_here es e k is = let same = equal_is (o.key e) k is in rw same refl

  -- an entry that is put, in parts
  pub puts_past : (xs ys zs : List E) (k : K) (slot : Option E) → AreBefore o xs k → PutsAt o k slot ys zs → PutsAt o k slot (xs ++ ys) (xs ++ zs)
  puts_past [] ys zs k slot before puts q = puts q
  puts_past (x ∷ xs) ys zs k slot before puts q =
      let apart : is_eq (o.cmp (o.key x) q) ≡ true → is_eq (o.cmp k q) ≡ false =
      λ h. ap (λ (c : K). is_eq (o.cmp k c)) (sym (same_key (o.key x) q h)) ∙ ap is_eq (greater (o.key x) k before.0) in
      ap (λ (rest : Option E). if is_eq (o.cmp (o.key x) q) then Some x else rest) (puts_past xs ys zs k slot before.1 puts q)
      ∙ swap_tests (is_eq (o.cmp (o.key x) q)) (is_eq (o.cmp k q)) (Some x) slot (entry_of o (xs ++ ys) q) apart

  pub puts_new : (ys : List E) (f : E) (k : K) → o.key f ≡ k → PutsAt o k (Some f) ys (f ∷ ys)
  puts_new ys f k is q = ap (λ (c : K). if is_eq (o.cmp c q) then Some f else entry_of o ys q) is

  pub puts_over : (ys : List E) (e f : E) (k : K) → o.key e ≡ k → o.key f ≡ k → PutsAt o k (Some f) (e ∷ ys) (f ∷ ys)
  puts_over ys e f k was is q =
      ap (λ (c : K). if is_eq (o.cmp c q) then Some f else entry_of o ys q) is
      ∙ twice (is_eq (o.cmp k q)) (Some f) (Some e) (entry_of o ys q)
      ∙ ap (λ (c : K). if is_eq (o.cmp k q) then Some f else (if is_eq (o.cmp c q) then Some e else entry_of o ys q)) (sym was)

  pub puts_none : (ys : List E) (e : E) (k : K) → o.key e ≡ k → AreBehind o k ys → PutsAt o k None (e ∷ ys) ys
  puts_none ys e k was behind q =
      none_at (is_eq (o.cmp k q)) (entry_of o ys q) e (λ h. ap (entry_of o ys) (sym (same_key k q h)) ∙ entry_behind ys k behind)
      ∙ ap (λ (c : K). if is_eq (o.cmp k q) then None else (if is_eq (o.cmp c q) then Some e else entry_of o ys q)) (sym was)

  -- where there is no entry, none is taken out
  pub puts_nothing : (es : List E) (k : K) → entry_of o es k ≡ None → PutsAt o k None es es
  puts_nothing es k none q = none_there (is_eq (o.cmp k q)) (entry_of o es q) (λ h. ap (entry_of o es) (sym (same_key k q h)) ∙ none)

  -- what is told of an entry that is found
  pub behind_entry : (es : List E) (k j : K) (y : E) → AreBehind o k es → entry_of o es j ≡ Some y → o.cmp k j ≡ Less
  behind_entry [] k j y behind is = cc
  behind_entry (e ∷ es) k j y behind is =
      elim (if_cases (is_eq (o.cmp (o.key e) j)) (Some e) (entry_of o es j) (Some y) is) [
        | inl h ↦ subst (λ (c : K). o.cmp k c ≡ Less) (same_key (o.key e) j h.0) behind.0
        | inr h ↦ behind_entry es k j y behind.1 h.1
      ]

  pub entry_key : (es : List E) (j : K) (y : E) → entry_of o es j ≡ Some y → o.key y ≡ j
  entry_key [] j y is = cc
  entry_key (e ∷ es) j y is =
      elim (if_cases (is_eq (o.cmp (o.key e) j)) (Some e) (entry_of o es j) (Some y) is) [
        | inl h ↦ let same : y ≡ e = cc in ap (λ (x : E). o.key x) same ∙ same_key (o.key e) j h.0
        | inr h ↦ entry_key es j y h.1
      ]

  -- what is told of the first entry from a key on: it is there, doesn't come before the key, and is the least such
  pub first_there : (es : List E) (k : K) (e : E) (rest : List E) → Rise o es → entries_from o es k ≡ e ∷ rest → entry_of o es (o.key e) ≡ Some e
  first_there [] k e rest rise is = cc
  first_there (x ∷ xs) k e rest rise is =
      elim (if_cases (is_lt (o.cmp (o.key x) k)) (entries_from o xs k) (x ∷ xs) (e ∷ rest) is) [
        | inl h ↦
            let there = first_there xs k e rest rise.1 h.1 in
            let after = behind_entry xs (o.key x) (o.key e) e rise.0 there in
            rw after there
        | inr h ↦ let same : x ≡ e = cc in subst (λ (y : E). entry_of o (x ∷ xs) (o.key y) ≡ Some y) same (entry_here xs x (o.key x) refl)
      ]

  pub first_from : (es : List E) (k : K) (e : E) (rest : List E) → entries_from o es k ≡ e ∷ rest → is_lt (o.cmp (o.key e) k) ≡ false
  first_from [] k e rest is = cc
  first_from (x ∷ xs) k e rest is =
      elim (if_cases (is_lt (o.cmp (o.key x) k)) (entries_from o xs k) (x ∷ xs) (e ∷ rest) is) [
        | inl h ↦ first_from xs k e rest h.1
        | inr h ↦ let same : x ≡ e = cc in subst (λ (y : E). is_lt (o.cmp (o.key y) k) ≡ false) same h.0
      ]

  pub first_least : (es : List E) (k j : K) (e : E) (rest : List E) (y : E) → Rise o es → entries_from o es k ≡ e ∷ rest → entry_of o es j ≡ Some y → is_lt (o.cmp j k) ≡ false → is_lt (o.cmp j (o.key e)) ≡ false
  first_least [] k j e rest y rise is there low = cc
  first_least (x ∷ xs) k j e rest y rise is there low =
      elim (if_cases (is_lt (o.cmp (o.key x) k)) (entries_from o xs k) (x ∷ xs) (e ∷ rest) is) [
        | inl h ↦
            elim (if_cases (is_eq (o.cmp (o.key x) j)) (Some x) (entry_of o xs j) (Some y) there) [
              | inl same ↦
                  let before : is_lt (o.cmp j k) ≡ true = subst (λ (c : K). is_lt (o.cmp c k) ≡ true) (same_key (o.key x) j same.0) h.0 in
                  absurd (true≢false (sym before ∙ low))
              | inr other ↦ first_least xs k j e rest y rise.1 h.1 other.1 low
            ]
        | inr h ↦
            let first : x ≡ e = cc in
            elim (if_cases (is_eq (o.cmp (o.key x) j)) (Some x) (entry_of o xs j) (Some y) there) [
              | inl same ↦
                  let own : j ≡ o.key e = sym (same_key (o.key x) j same.0) ∙ ap (λ (z : E). o.key z) first in
                  ap is_lt (equal_is j (o.key e) own)
              | inr other ↦
                  let after = behind_entry xs (o.key x) j y rise.0 other.1 in
                  subst (λ (z : E). is_lt (o.cmp j (o.key z)) ≡ false) first (ap is_lt (greater (o.key x) j after))
            ]
      ]

  pub none_from : (es : List E) (k j : K) (y : E) → entries_from o es k ≡ [] → entry_of o es j ≡ Some y → o.cmp j k ≡ Less
  none_from [] k j y is there = cc
  none_from (x ∷ xs) k j y is there =
      elim (if_cases (is_lt (o.cmp (o.key x) k)) (entries_from o xs k) (x ∷ xs) [] is) [
        | inl h ↦
            elim (if_cases (is_eq (o.cmp (o.key x) j)) (Some x) (entry_of o xs j) (Some y) there) [
              | inl same ↦ subst (λ (c : K). o.cmp c k ≡ Less) (same_key (o.key x) j same.0) (is_less (o.cmp (o.key x) k) h.0)
              | inr other ↦ none_from xs k j y h.1 other.1
            ]
        | inr h ↦ let no : x ∷ xs ≡ [] = h.1 in cc
      ]

  tail_at : (x : E) (xs ys : List E) (k : K) (b : Bool) → is_eq (o.cmp (o.key x) k) ≡ b → AreBehind o (o.key x) xs → AreBehind o (o.key x) ys
      → (if b then Some x else entry_of o xs k) ≡ (if b then Some x else entry_of o ys k) → entry_of o xs k ≡ entry_of o ys k
  tail_at x xs ys k true is behind_xs behind_ys same =
      let at = same_key (o.key x) k is in
      entry_behind xs k (subst (λ (c : K). AreBehind o c xs) at behind_xs) ∙ sym (entry_behind ys k (subst (λ (c : K). AreBehind o c ys) at behind_ys))
  tail_at x xs ys k false is behind_xs behind_ys same = same

  -- entries that rise are what they have at each key
  pub one_list : (xs ys : List E) → Rise o xs → Rise o ys → ((k : K) → entry_of o xs k ≡ entry_of o ys k) → xs ≡ ys
  one_list [] [] rise_xs rise_ys same = refl
  one_list [] (y ∷ ys) rise_xs rise_ys same =
      let some : None ≡ Some y = same (o.key y) ∙ entry_here ys y (o.key y) refl in
      cc
  one_list (x ∷ xs) [] rise_xs rise_ys same =
      let some : None ≡ Some x = sym (same (o.key x)) ∙ entry_here xs x (o.key x) refl in
      cc
  one_list (x ∷ xs) (y ∷ ys) rise_xs rise_ys same =
      let own : entry_of o (y ∷ ys) (o.key x) ≡ Some x = sym (same (o.key x)) ∙ entry_here xs x (o.key x) refl in
      let other : entry_of o (x ∷ xs) (o.key y) ≡ Some y = same (o.key y) ∙ entry_here ys y (o.key y) refl in
      elim (if_cases (is_eq (o.cmp (o.key y) (o.key x))) (Some y) (entry_of o ys (o.key x)) (Some x) own) [
        | inl h ↦
            let first : x ≡ y = cc in
            let rise : Rise o (x ∷ ys) = subst (λ (z : E). Rise o (z ∷ ys)) (sym first) rise_ys in
            let rest : xs ≡ ys =
            one_list xs ys rise_xs.1 rise_ys.1
            (λ k. tail_at x xs ys k (is_eq (o.cmp (o.key x) k)) refl rise_xs.0 rise.0 (same k ∙ ap (λ (z : E). entry_of o (z ∷ ys) k) (sym first))) in
            ap (λ (z : E). z ∷ xs) first ∙ ap (λ (zs : List E). y ∷ zs) rest
        | inr h ↦
            let after = behind_entry ys (o.key y) (o.key x) x rise_ys.0 h.1 in
            let above = greater (o.key y) (o.key x) after in
            elim (if_cases (is_eq (o.cmp (o.key x) (o.key y))) (Some x) (entry_of o xs (o.key y)) (Some y) other) [
              | inl i ↦ absurd (true≢false (sym i.0 ∙ ap is_eq above))
              | inr i ↦
                  let before = behind_entry xs (o.key x) (o.key y) y rise_xs.0 i.1 in
                  let no : Less ≡ Greater = sym before ∙ above in
                  cc
            ]
      ]
