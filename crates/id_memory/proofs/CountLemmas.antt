-- Entries that rise, and how many of them pass a test.
use Rattle.std.specs.Prelude.{count_by}
use Rattle.std.specs.Ordering.{is_eq, is_lt}
use Rattle.std.proofs.Common.{◌≡◌, ◌+◌, ◌<◌, ◌≤◌, List, [], ◌∷◌, Bool, true, false, cond, length, Option, Some, None, if◌then◌else◌, Ordering, Less, Equal, Greater, refl, sym, ap, ◌∙◌, subst, arith}
use Rattle.std.proofs.lemmas.List.Sums.{sum_by-cons}
use Rattle.ordered_pages.specs.Orders.{Order, IsTotal}
use Rattle.ordered_pages.specs.Entries.{AreBehind, Rise, entry_of, PutsAt}
use Rattle.ordered_pages.proofs.OrderLaws.{behind_entry, behind_more, entry_behind, entry_here, equal_is, itself, less, one_list, puts_new, puts_past, same_key}
use Rattle.id_memory.specs.inner.Orders.{Triple}
use Rattle.id_memory.specs.inner.Calls.{CountsMore}

-- a count, one item at a time
pub count_cons : (p : Triple → Bool) (x : Triple) (xs : List Triple) → count_by p (x ∷ xs) ≡ cond (p x) 1 0 + count_by p xs
count_cons p x xs = sum_by-cons (λ y. cond (p y) 1 0) x xs

pub count_yes : (p : Triple → Bool) (x : Triple) (xs : List Triple) → p x ≡ true → count_by p (x ∷ xs) ≡ 1 + count_by p xs
count_yes p x xs e = count_cons p x xs ∙ ap (λ (b : Bool). cond b 1 0 + count_by p xs) e

pub count_no : (p : Triple → Bool) (x : Triple) (xs : List Triple) → p x ≡ false → count_by p (x ∷ xs) ≡ count_by p xs
count_no p x xs e = count_cons p x xs ∙ ap (λ (b : Bool). cond b 1 0 + count_by p xs) e ∙ omega arith

count_all : (xs : List Triple) → count_by (λ x. true) xs ≡ length xs
count_all [] = refl
count_all (x ∷ xs) = omega (arith, count_yes (λ x. true) x xs refl, count_all xs)

-- lists of which every test passes as many are as long
pub same_length : (xs ys : List Triple) → count_by (λ x. true) xs ≡ count_by (λ x. true) ys → length xs ≡ length ys
same_length xs ys same = sym (count_all xs) ∙ same ∙ count_all ys

none_rest : (b : Bool) (e : Triple) (z : Option Triple) → (if b then Some e else z) ≡ None → z ≡ None
none_rest true e z none = cc
none_rest false e z none = none

-- the entries with one more, where it comes
abbrev with_entry : {K : Type 0} → Order Triple K → Triple → List Triple → List Triple
with_entry o x [] = x ∷ []
with_entry o x (e ∷ es) = if is_lt (o.cmp (o.key e) (o.key x)) then e ∷ with_entry o x es else x ∷ e ∷ es

module _ {K : Type 0} (o : Order Triple K) (l : IsTotal o) where
  count_with_by : (x e : Triple) (es : List Triple) (test : Triple → Bool) (b : Bool) → count_by test (with_entry o x es) ≡ count_by test es + cond (test x) 1 0
      → count_by test (if b then e ∷ with_entry o x es else x ∷ e ∷ es) ≡ count_by test (e ∷ es) + cond (test x) 1 0
  count_with_by x e es test true rest = omega (arith, count_cons test e (with_entry o x es), count_cons test e es, rest)
  count_with_by x e es test false rest = omega (arith, count_cons test x (e ∷ es))

  count_with : (x : Triple) (es : List Triple) (test : Triple → Bool) → count_by test (with_entry o x es) ≡ count_by test es + cond (test x) 1 0
  count_with x [] test = omega (arith, count_cons test x [])
  count_with x (e ∷ es) test = count_with_by x e es test (is_lt (o.cmp (o.key e) (o.key x))) (count_with x es test)

  behind_with_by : (k : K) (x e : Triple) (es : List Triple) (b : Bool) → AreBehind o k (e ∷ es) → o.cmp k (o.key x) ≡ Less → AreBehind o k (with_entry o x es)
      → AreBehind o k (if b then e ∷ with_entry o x es else x ∷ e ∷ es)
  behind_with_by k x e es true behind h rest = (behind.0, rest)
  behind_with_by k x e es false behind h rest = (h, behind)

  behind_with : (k : K) (x : Triple) (es : List Triple) → AreBehind o k es → o.cmp k (o.key x) ≡ Less → AreBehind o k (with_entry o x es)
  behind_with k x [] behind h = (h, tt)
  behind_with k x (e ∷ es) behind h = behind_with_by k x e es (is_lt (o.cmp (o.key e) (o.key x))) behind h (behind_with k x es behind.1 h)

  rise_with_by : (x e : Triple) (es : List Triple) (r : Ordering) → o.cmp (o.key e) (o.key x) ≡ r → Rise o (e ∷ es) → (if is_eq r then Some e else entry_of o es (o.key x)) ≡ None
      → (entry_of o es (o.key x) ≡ None → Rise o (with_entry o x es)) → Rise o (if is_lt r then e ∷ with_entry o x es else x ∷ e ∷ es)
  rise_with_by x e es Less is rise none rest = (behind_with (o.key e) x es rise.0 is, rest none)
  rise_with_by x e es Equal is rise none rest = let some : Some e ≡ None = none in cc
  rise_with_by x e es Greater is rise none rest =
      let h = less o l (o.key e) (o.key x) is in
      ((h, behind_more o l (o.key x) (o.key e) es h rise.0), rise)

  rise_with_entry : (x : Triple) (es : List Triple) → Rise o es → entry_of o es (o.key x) ≡ None → Rise o (with_entry o x es)
  rise_with_entry x [] rise none = (tt, tt)
  rise_with_entry x (e ∷ es) rise none = rise_with_by x e es (o.cmp (o.key e) (o.key x)) refl rise none (rise_with_entry x es rise.1)

  puts_with_by : (x e : Triple) (es : List Triple) (r : Ordering) → o.cmp (o.key e) (o.key x) ≡ r → (if is_eq r then Some e else entry_of o es (o.key x)) ≡ None
      → (entry_of o es (o.key x) ≡ None → PutsAt o (o.key x) (Some x) es (with_entry o x es)) → PutsAt o (o.key x) (Some x) (e ∷ es) (if is_lt r then e ∷ with_entry o x es else x ∷ e ∷ es)
  puts_with_by x e es Less is none rest = puts_past o l (e ∷ []) es (with_entry o x es) (o.key x) (Some x) (is, tt) (rest none)
  puts_with_by x e es Equal is none rest = let some : Some e ≡ None = none in cc
  puts_with_by x e es Greater is none rest = puts_new o l (e ∷ es) x (o.key x) refl

  puts_with : (x : Triple) (es : List Triple) → entry_of o es (o.key x) ≡ None → PutsAt o (o.key x) (Some x) es (with_entry o x es)
  puts_with x [] none = puts_new o l [] x (o.key x) refl
  puts_with x (e ∷ es) none = puts_with_by x e es (o.cmp (o.key e) (o.key x)) refl none (puts_with x es)

  -- AN ENTRY THAT IS PUT is one more
  pub counts_put : (x : Triple) (before now : List Triple) → Rise o before → Rise o now → entry_of o before (o.key x) ≡ None → PutsAt o (o.key x) (Some x) before now → CountsMore x before now
  counts_put x before now rise rise_now none puts test =
      ap (count_by test) (one_list o l now (with_entry o x before) rise_now (rise_with_entry x before rise none) (λ k. puts k ∙ sym (puts_with x before none k)))
      ∙ count_with x before test

  back_by : (x : Triple) (before now : List Triple) (q : K) (b : Bool) → is_eq (o.cmp (o.key x) q) ≡ b → entry_of o before (o.key x) ≡ Some x → entry_of o now q ≡ (if b then None else entry_of o before q)
      → entry_of o before q ≡ (if b then Some x else entry_of o now q)
  back_by x before now q true is there puts = ap (entry_of o before) (sym (same_key o l (o.key x) q is)) ∙ there
  back_by x before now q false is there puts = sym puts

  -- one that is taken out was one more
  pub counts_taken : (x : Triple) (before now : List Triple) → Rise o before → Rise o now → entry_of o before (o.key x) ≡ Some x → PutsAt o (o.key x) None before now → CountsMore x now before
  counts_taken x before now rise rise_now there puts =
      let none : entry_of o now (o.key x) ≡ None = puts (o.key x) ∙ ap (λ (r : Ordering). if is_eq r then None else entry_of o before (o.key x)) (itself o l (o.key x)) in
      counts_put x now before rise_now rise none (λ q. back_by x before now q (is_eq (o.cmp (o.key x) q)) refl there (puts q))

  none_by : (test : Triple → Bool) (k : K) (e : Triple) (es : List Triple) (b : Bool) → test e ≡ b → (test e ≡ true → o.key e ≡ k) → (if is_eq (o.cmp (o.key e) k) then Some e else entry_of o es k) ≡ None
      → (entry_of o es k ≡ None → count_by test es ≡ 0) → count_by test (e ∷ es) ≡ 0
  none_by test k e es true is own none rest =
      let same = equal_is o l (o.key e) k (own is) in
      let some : Some e ≡ None = rw same at none in
      cc
  none_by test k e es false is own none rest = count_no test e es is ∙ rest (none_rest (is_eq (o.cmp (o.key e) k)) e (entry_of o es k) none)

  -- a test of one key passes none, where the key has no entry
  pub none_count : (test : Triple → Bool) (k : K) (es : List Triple) → ((e : Triple) → test e ≡ true → o.key e ≡ k) → entry_of o es k ≡ None → count_by test es ≡ 0
  none_count test k [] own none = refl
  none_count test k (e ∷ es) own none = none_by test k e es (test e) refl (own e) none (none_count test k es own)

  some_by : (test : Triple → Bool) (k : K) (x e : Triple) (es : List Triple) (b : Bool) → (if b then Some e else entry_of o es k) ≡ Some x → test x ≡ true → (entry_of o es k ≡ Some x → 0 < count_by test es) → 0 < count_by test (e ∷ es)
  some_by test k x e es true is passes rest =
      let same : e ≡ x = cc in
      omega (arith, count_yes test e es (ap test same ∙ passes))
  some_by test k x e es false is passes rest = omega (arith, count_cons test e es, rest is)

  -- an entry that passes a test is counted
  pub some_count : (test : Triple → Bool) (k : K) (x : Triple) (es : List Triple) → entry_of o es k ≡ Some x → test x ≡ true → 0 < count_by test es
  some_count test k x [] is passes = cc
  some_count test k x (e ∷ es) is passes = some_by test k x e es (is_eq (o.cmp (o.key e) k)) is passes (λ is. some_count test k x es is passes)

  most_by : (test : Triple → Bool) (k : K) (e : Triple) (es : List Triple) (b : Bool) → test e ≡ b → ((e : Triple) → test e ≡ true → o.key e ≡ k) → Rise o (e ∷ es) → count_by test es ≤ 1 → count_by test (e ∷ es) ≤ 1
  most_by test k e es true is own rise rest =
      let behind = subst (λ (j : K). AreBehind o j es) (own e is) rise.0 in
      omega (arith, count_yes test e es is, none_count test k es own (entry_behind o l es k behind))
  most_by test k e es false is own rise rest = omega (arith, count_no test e es is, rest)

  -- a test of one key passes one at most
  pub most_one : (test : Triple → Bool) (k : K) (es : List Triple) → ((e : Triple) → test e ≡ true → o.key e ≡ k) → Rise o es → count_by test es ≤ 1
  most_one test k [] own rise = omega arith
  most_one test k (e ∷ es) own rise = most_by test k e es (test e) refl own rise (most_one test k es own rise.1)

  own_by : (test : Triple → Bool) (x e : Triple) (es : List Triple) (b : Bool) → test e ≡ b → (test e ≡ true → e ≡ x) → Rise o (e ∷ es) → 0 < count_by test (e ∷ es)
      → (0 < count_by test es → entry_of o es (o.key x) ≡ Some x) → entry_of o (e ∷ es) (o.key x) ≡ Some x
  own_by test x e es true is one rise some rest = subst (λ (y : Triple). entry_of o (y ∷ es) (o.key x) ≡ Some x) (sym (one is)) (entry_here o l es x (o.key x) refl)
  own_by test x e es false is one rise some rest =
      let there = rest (omega (arith, some, count_no test e es is)) in
      let after = behind_entry o l es (o.key e) (o.key x) x rise.0 there in
      rw after there

  -- an entry that alone passes a test that some pass, is there
  pub count_some : (test : Triple → Bool) (x : Triple) (es : List Triple) → ((e : Triple) → test e ≡ true → e ≡ x) → Rise o es → 0 < count_by test es → entry_of o es (o.key x) ≡ Some x
  count_some test x [] one rise some = absurd (omega arith)
  count_some test x (e ∷ es) one rise some = own_by test x e es (test e) refl (one e) rise some (count_some test x es one rise.1)
