-- Where a search has come to, and how many comparisons it takes.
use Rattle.std.specs.Ordering.{is_eq, is_lt, ordering_reverse}
use Rattle.std.proofs.Common.{◌≡◌, ℕ, zero, suc, ◌+◌, ◌-◌, ◌*◌, ◌/◌, ◌^◌, ◌<◌, ◌≤◌, List, [], ◌∷◌, ◌++◌, true, false, take, drop, length, get_or, Bool, Option, Some, None, if◌then◌else◌, Ordering, Less, Equal, Greater, refl, sym, ap, ◌∙◌, subst, arith}
use Rattle.std.proofs.Math.Nat.{pow-suc}
use Rattle.std.proofs.lemmas.List.{length-append}
use Rattle.ordered_pages.specs.Orders.{Order, IsTotal}
use Rattle.ordered_pages.specs.Entries.{AreBefore, AreBehind, Rise, entry_of, entries_from}
use Rattle.ordered_pages.specs.LookUps.{WithinDigits}
use Rattle.ordered_pages.specs.inner.Pages.{all_entries, AreSized, Hold, least_among, IsPageOf}
use Rattle.ordered_pages.specs.inner.Places.{StandsAt, IsGap, Halves}
use Rattle.ordered_pages.proofs.OrderLaws.{before_append, before_first, before_more, before_upto, behind_more, entry_behind, entry_here, entry_past, from_behind, from_here, from_past, less, rise_back}
use Rattle.ordered_pages.proofs.PagesLemmas.{around, drop_from, get_same, hold_at, hold_one, reads_around, take_next}

-- of `all` places, `left` are left, after the steps from `before` to `now`
abbrev pub Halved : ℕ → ℕ → ℕ → ℕ → Type 0
Halved all left before now = (k : ℕ) → all ≤ 2 ^ k → (j : ℕ) × (left ≤ 2 ^ j) × (now + j ≤ before + k)

halve : (left part before now k j : ℕ) → 1 < left → part + part ≤ left + 1 → left ≤ 2 ^ j → now + j ≤ before + k → (i : ℕ) × (part ≤ 2 ^ i) × (now + 1 + i ≤ before + k)
halve left part before now k zero some half fits long = absurd (omega (arith, some, fits))
halve left part before now k (suc j) some half fits long =
    let twice : 2 ^ suc j ≡ 2 ^ j * 2 = pow-suc 2 j in
    (j, omega (arith, half, fits, twice), omega (arith, long))

pub halved : (all left part before now next : ℕ) → 1 < left → part + part ≤ left + 1 → next ≡ now + 1 → Halved all left before now → Halved all part before next
halved all left part before now next some half step was = λ k fits.
    let o = was k fits in
    let h = halve left part before now k o.0 some half o.1 o.2 in
    (h.0, h.1, subst (λ (n : ℕ). n + h.0 ≤ before + k) (sym step) h.2)

-- the parts that a search goes on with
pub upper_half : (low high : ℕ) → low < high → (high - (low + (high - low) / 2)) + (high - (low + (high - low) / 2)) ≤ (high - low) + 1
upper_half low high h = omega arith

pub lower_half : (low high : ℕ) → ((low + (high - low) / 2) - low) + ((low + (high - low) / 2) - low) ≤ (high - low) + 1
lower_half low high = omega arith

count_one : {E : Type 0} (ps : List (List E)) → Hold 1 ps → length ps ≤ length (all_entries ps)
count_one [] hold = omega arith
count_one (p ∷ ps) hold = omega (arith, hold.0, length-append p (all_entries ps), count_one ps hold.2)

sixty_four : (n : ℕ) → n ≤ 64 → n ≤ 2 ^ 6
sixty_four n h = h

-- both searches together
pub both_steps : {E : Type 0} (ps : List (List E)) (i : ℕ) (d read : List E) (before between after : ℕ) → AreSized ps → i < length ps → d ≡ get_or ps i d → read ≡ d → Halves (length ps) before between → Halves (length read) (between + 1) after → WithinDigits (length (all_entries ps)) 7 before after
both_steps ps i d read before between after sized h is same pages entries = λ k fits.
    let most = (hold_at (least_among (length ps)) ps i d sized h).1 in
    let long = ap length (same ∙ is) in
    let few = count_one ps (hold_one ps sized) in
    let first = pages k (omega (arith, few, fits)) in
    let second = entries 6 (sixty_four (length read) (omega (arith, long, most))) in
    omega (arith, first, second)

-- the part of a search that is looked at
pub between : (low high : ℕ) → low < high → (low ≤ low + (high - low) / 2) × (low + (high - low) / 2 < high)
between low high h = (omega arith, omega arith)

parted : {A : Type 0} (es : List A) (at : ℕ) → es ≡ take at es ++ drop at es
parted es zero = refl
parted [] (suc at) = refl
parted {A = A} (e ∷ es) (suc at) = ap (λ (xs : List A). e ∷ xs) (parted es at)

eq_turned : (r : Ordering) → is_eq (ordering_reverse r) ≡ is_eq r
eq_turned Less = refl
eq_turned Equal = refl
eq_turned Greater = refl

if_append : {A : Type 0} (b : Bool) (xs ys zs : List A) → (if b then xs ++ zs else ys ++ zs) ≡ (if b then xs else ys) ++ zs
if_append true xs ys zs = refl
if_append false xs ys zs = refl

module _ {E K : Type 0} (o : Order E K) (l : IsTotal o) where
  -- what a search among entries reads
  pub low_at : (es : List E) (m : ℕ) (k : K) (e : E) → Rise o es → m < length es → e ≡ get_or es m e → is_lt (o.cmp k (o.key e)) ≡ false → AreBefore o (take m es) k
  low_at es m k e rise h is low =
      let whole : es ≡ take m es ++ e ∷ drop (suc m) es = around es m e h ∙ ap (λ (x : E). take m es ++ x ∷ drop (suc m) es) (sym is) in
      before_upto o l (o.key e) k (take m es) (before_first o l (take m es) (drop (suc m) es) e (subst (Rise o) whole rise)) low

  pub high_at : (es : List E) (m : ℕ) (k : K) (e : E) → Rise o es → m < length es → e ≡ get_or es m e → o.cmp k (o.key e) ≡ Less → AreBehind o k (drop m es)
  high_at es m k e rise h is high =
      let rest : drop m es ≡ e ∷ drop (suc m) es = drop_from es m e h ∙ ap (λ (x : E). x ∷ drop (suc m) es) (sym is) in
      let whole : es ≡ take m es ++ e ∷ drop (suc m) es = around es m e h ∙ ap (λ (x : E). take m es ++ x ∷ drop (suc m) es) (sym is) in
      let back : Rise o (e ∷ drop (suc m) es) = rise_back o l (take m es) (e ∷ drop (suc m) es) (subst (Rise o) whole rise) in
      subst (AreBehind o k) (sym rest) (high, behind_more o l k (o.key e) (drop (suc m) es) high back.0)

  pub past_at : (es : List E) (m n : ℕ) (k : K) (e : E) → Rise o es → m < length es → e ≡ get_or es m e → o.cmp k (o.key e) ≡ Greater → n ≡ suc m → AreBefore o (take n es) k
  past_at es m n k e rise h is low next =
      let under : o.cmp (o.key e) k ≡ Less = less o l k (o.key e) low in
      let parts : take n es ≡ take m es ++ e ∷ [] = ap (λ (j : ℕ). take j es) next ∙ take_next es m e h ∙ ap (λ (x : E). take m es ++ x ∷ []) (sym is) in
      let whole : es ≡ take m es ++ e ∷ drop (suc m) es = around es m e h ∙ ap (λ (x : E). take m es ++ x ∷ drop (suc m) es) (sym is) in
      let before : AreBefore o (take m es) (o.key e) = before_first o l (take m es) (drop (suc m) es) e (subst (Rise o) whole rise) in
      subst (λ (xs : List E). AreBefore o xs k) (sym parts) (before_append o l k (take m es) (e ∷ []) (before_more o l (o.key e) k (take m es) before under) (under, tt))

  pub stands : (es : List E) (m : ℕ) (k : K) (e : E) → m < length es → e ≡ get_or es m e → o.cmp k (o.key e) ≡ Equal → StandsAt o es k m
  stands es m k e h is same = (h, λ d. ap (λ (x : E). o.key x) (get_same es m d e h ∙ sym is) ∙ sym (l.same k (o.key e) same))

  -- where the search ends, the entry is there or nowhere
  pub entry_there : (es : List E) (at : ℕ) (k : K) (e : E) → Rise o es → StandsAt o es k at → e ≡ get_or es at e → Some e ≡ entry_of o es k
  entry_there es at k e rise here is =
      let whole : es ≡ take at es ++ e ∷ drop (suc at) es = around es at e here.0 ∙ ap (λ (x : E). take at es ++ x ∷ drop (suc at) es) (sym is) in
      let key : o.key e ≡ k = ap (λ (x : E). o.key x) is ∙ here.1 e in
      let before : AreBefore o (take at es) k = subst (AreBefore o (take at es)) key (before_first o l (take at es) (drop (suc at) es) e (subst (Rise o) whole rise)) in
      sym (ap (λ (xs : List E). entry_of o xs k) whole ∙ entry_past o l (take at es) (e ∷ drop (suc at) es) k before ∙ entry_here o l (drop (suc at) es) e k key)

  pub entry_nowhere : (es : List E) (at : ℕ) (k : K) → IsGap o es k at → None ≡ entry_of o es k
  entry_nowhere es at k gap =
      sym (ap (λ (xs : List E). entry_of o xs k) (parted es at) ∙ entry_past o l (take at es) (drop at es) k gap.1 ∙ entry_behind o l (drop at es) k gap.2)

  -- the same for the search that counts
  pub entry_at : (es : List E) (m n : ℕ) (k : K) (e : E) → m < n → n ≤ length es → n - m ≤ 1 → AreBefore o (take m es) k → AreBehind o k (drop n es) → e ≡ get_or es m e
      → entry_of o es k ≡ (if is_eq (o.cmp (o.key e) k) then Some e else None)
  entry_at es m n k e within most one before behind is =
      let h : m < length es = omega (arith, within, most) in
      let next : n ≡ suc m = omega (arith, within, one) in
      let whole : es ≡ take m es ++ e ∷ drop (suc m) es = around es m e h ∙ ap (λ (x : E). take m es ++ x ∷ drop (suc m) es) (sym is) in
      let none : entry_of o (drop (suc m) es) k ≡ None = entry_behind o l (drop (suc m) es) k (subst (λ (j : ℕ). AreBehind o k (drop j es)) next behind) in
      ap (λ (xs : List E). entry_of o xs k) whole ∙ entry_past o l (take m es) (e ∷ drop (suc m) es) k before
      ∙ ap (λ (rest : Option E). if is_eq (o.cmp (o.key e) k) then Some e else rest) none

  -- the entries from a key on, in the page that can hold it and behind it
  pub from_page : (ps : List (List E)) (k : K) (i : ℕ) (p : List E) → IsPageOf o ps k i → p ≡ get_or ps i p → entries_from o (all_entries ps) k ≡ entries_from o (p ++ all_entries (drop (suc i) ps)) k
  from_page ps k i p of is =
      ap (λ (es : List E). entries_from o es k) (reads_around ps i p of.0 is) ∙ from_past o l (all_entries (take i ps)) (p ++ all_entries (drop (suc i) ps)) k of.1

  same_test : (a b : K) → is_eq (o.cmp b a) ≡ is_eq (o.cmp a b)
  same_test a b = ap is_eq (l.total.antisymm b a) ∙ eq_turned (o.cmp a b)

  pub there : (es : List E) (m n : ℕ) (k : K) (e : E) → m < n → n ≤ length es → n - m ≤ 1 → AreBefore o (take m es) k → AreBehind o k (drop n es) → e ≡ get_or es m e
      → is_eq (o.cmp k (o.key e)) ≡ true → Some e ≡ entry_of o es k
  there es m n k e within most one before behind is equal =
      sym (entry_at es m n k e within most one before behind is ∙ ap (λ (b : Bool). if b then Some e else None) (same_test k (o.key e) ∙ equal))

  pub nowhere : (es : List E) (m n : ℕ) (k : K) (e : E) → m < n → n ≤ length es → n - m ≤ 1 → AreBefore o (take m es) k → AreBehind o k (drop n es) → e ≡ get_or es m e
      → is_eq (o.cmp k (o.key e)) ≡ false → None ≡ entry_of o es k
  nowhere es m n k e within most one before behind is apart =
      sym (entry_at es m n k e within most one before behind is ∙ ap (λ (b : Bool). if b then Some e else None) (same_test k (o.key e) ∙ apart))

  -- the entries from a key on, by its place
  pub from_stands : (es : List E) (at : ℕ) (k : K) → Rise o es → StandsAt o es k at → drop at es ≡ entries_from o es k
  from_stands [] at k rise here = absurd (omega (arith, here.0))
  from_stands (x ∷ xs) at k rise here =
      let es : List E = x ∷ xs in
      let e : E = get_or es at x in
      let whole : es ≡ take at es ++ e ∷ drop (suc at) es = around es at x here.0 in
      let rest : drop at es ≡ e ∷ drop (suc at) es = drop_from es at x here.0 in
      let before : AreBefore o (take at es) k = subst (AreBefore o (take at es)) (here.1 x) (before_first o l (take at es) (drop (suc at) es) e (subst (Rise o) whole rise)) in
      rest ∙ sym (ap (λ (ys : List E). entries_from o ys k) whole ∙ from_past o l (take at es) (e ∷ drop (suc at) es) k before ∙ from_here o l (drop (suc at) es) e k (here.1 x))

  pub from_gap : (es : List E) (at : ℕ) (k : K) → IsGap o es k at → drop at es ≡ entries_from o es k
  from_gap es at k gap =
      sym (ap (λ (xs : List E). entries_from o xs k) (parted es at) ∙ from_past o l (take at es) (drop at es) k gap.1 ∙ from_behind o l (drop at es) k gap.2)

  from_front : (p zs : List E) (k : K) → AreBehind o k zs → entries_from o (p ++ zs) k ≡ entries_from o p k ++ zs
  from_front [] zs k behind = from_behind o l zs k behind
  from_front (e ∷ p) zs k behind =
      ap (λ (rest : List E). if is_lt (o.cmp (o.key e) k) then rest else e ∷ (p ++ zs)) (from_front p zs k behind)
      ∙ if_append (is_lt (o.cmp (o.key e) k)) (entries_from o p k) (e ∷ p) zs

  pub from_pages : (ps : List (List E)) (k : K) (i : ℕ) (p : List E) → IsPageOf o ps k i → p ≡ get_or ps i p → entries_from o p k ++ all_entries (drop (suc i) ps) ≡ entries_from o (all_entries ps) k
  from_pages ps k i p of is = sym (from_page ps k i p of is ∙ from_front p (all_entries (drop (suc i) ps)) k of.2)
