-- Entries in pages: where a key stands, and how many entries a page has.
use Rattle.std.specs.Prelude.{nat_lt}
use Rattle.std.specs.Ordering.{is_lt}
use Rattle.std.proofs.Common.{◌≡◌, ℕ, zero, suc, ◌+◌, ◌-◌, ◌*◌, ◌/◌, ◌<◌, ◌≤◌, List, [], ◌∷◌, ◌++◌, Bool, true, false, take, drop, length, get_or, set, reverse, if◌then◌else◌, Less, refl, sym, ap, ◌∙◌, subst, arith}
use Rattle.std.proofs.Math.Seq.{take-append_seam, drop-append_seam}
use Rattle.std.proofs.lemmas.List.{reverse-append, length-append}
use Rattle.ordered_pages.specs.Orders.{Order, IsTotal}
use Rattle.ordered_pages.specs.Entries.{AreBefore, AreBehind, Rise, entry_of}
use Rattle.ordered_pages.specs.inner.Pages.{all_entries, Hold, least_among, AreSized, IsPageOf}
use Rattle.ordered_pages.proofs.OrderLaws.{before_first, before_upto, behind_more, entry_past, entry_front, is_less, rise_back, rise_front}

by_test : (b : Bool) → 1 ≤ (if b then 32 else 1)
by_test true = omega arith
by_test false = omega arith

pub least_one : (n : ℕ) → 1 ≤ least_among n
least_one n = by_test (nat_lt 1 n)

pub middle : (low high : ℕ) → 1 < high - low → (low < low + (high - low) / 2) × (low + (high - low) / 2 < high)
middle low high h = (omega arith, omega arith)

pub append_assoc : {A : Type 0} (xs ys zs : List A) → (xs ++ ys) ++ zs ≡ xs ++ (ys ++ zs)
append_assoc [] ys zs = refl
append_assoc (x ∷ xs) ys zs = ap (λ ws. x ∷ ws) (append_assoc xs ys zs)

-- a list around one place
pub around : {A : Type 0} (xs : List A) (i : ℕ) (d : A) → i < length xs → xs ≡ take i xs ++ get_or xs i d ∷ drop (suc i) xs
around [] i d h = absurd (omega arith)
around (x ∷ xs) zero d h = refl
around (x ∷ xs) (suc i) d h = ap (λ ys. x ∷ ys) (around xs i d (omega arith))

pub around_set : {A : Type 0} (xs : List A) (i : ℕ) (y : A) → i < length xs → set xs i y ≡ take i xs ++ y ∷ drop (suc i) xs
around_set [] i y h = absurd (omega arith)
around_set (x ∷ xs) zero y h = refl
around_set (x ∷ xs) (suc i) y h = ap (λ ys. x ∷ ys) (around_set xs i y (omega arith))

pub drop_from : {A : Type 0} (xs : List A) (i : ℕ) (d : A) → i < length xs → drop i xs ≡ get_or xs i d ∷ drop (suc i) xs
drop_from [] i d h = absurd (omega arith)
drop_from (x ∷ xs) zero d h = refl
drop_from (x ∷ xs) (suc i) d h = drop_from xs i d (omega arith)

pub take_next : {A : Type 0} (xs : List A) (k : ℕ) (d : A) → k < length xs → take (suc k) xs ≡ take k xs ++ get_or xs k d ∷ []
take_next [] k d h = absurd (omega arith)
take_next (x ∷ xs) zero d h = refl
take_next {A = A} (x ∷ xs) (suc k) d h = ap (λ (ys : List A). x ∷ ys) (take_next xs k d (omega arith))

pub length_take : {A : Type 0} (xs : List A) (i : ℕ) → i ≤ length xs → length (take i xs) ≡ i
length_take xs zero h = refl
length_take [] (suc i) h = absurd (omega arith)
length_take (x ∷ xs) (suc i) h = omega (arith, length_take xs i (omega arith))

pub get_same : {A : Type 0} (xs : List A) (i : ℕ) (d e : A) → i < length xs → get_or xs i d ≡ get_or xs i e
get_same [] i d e h = absurd (omega arith)
get_same (x ∷ xs) zero d e h = refl
get_same (x ∷ xs) (suc i) d e h = get_same xs i d e (omega arith)

-- the last entry of one list comes before the others
pub moved_one : {A : Type 0} (whole xs ys zs : List A) (x : A) → whole ≡ ys ++ reverse zs → ys ≡ xs ++ x ∷ [] → whole ≡ xs ++ reverse (zs ++ x ∷ [])
moved_one {A = A} whole xs ys zs x is last =
    is ∙ ap (λ (ws : List A). ws ++ reverse zs) last ∙ append_assoc xs (x ∷ []) (reverse zs) ∙ ap (λ (ws : List A). xs ++ ws) (sym (reverse-append zs (x ∷ [])))

pub first_part : {A : Type 0} (whole xs ys : List A) (n : ℕ) → whole ≡ xs ++ ys → length xs ≡ n → xs ≡ take n whole
first_part {A = A} whole xs ys n is long = sym (ap (take n) is ∙ subst (λ (k : ℕ). take k (xs ++ ys) ≡ xs) long (take-append_seam xs ys))

pub last_part : {A : Type 0} (whole xs ys : List A) (n : ℕ) → whole ≡ xs ++ ys → length xs ≡ n → ys ≡ drop n whole
last_part {A = A} whole xs ys n is long = sym (ap (drop n) is ∙ subst (λ (k : ℕ). drop k (xs ++ ys) ≡ ys) long (drop-append_seam xs ys))

module _ {E : Type 0} where
  pub all_append : (ps qs : List (List E)) → all_entries (ps ++ qs) ≡ all_entries ps ++ all_entries qs
  all_append [] qs = refl
  all_append (p ∷ ps) qs = ap (λ (es : List E). p ++ es) (all_append ps qs) ∙ sym (append_assoc p (all_entries ps) (all_entries qs))

  -- all entries around a page
  pub all_around : (ps : List (List E)) (i : ℕ) (d : List E) → i < length ps → all_entries ps ≡ all_entries (take i ps) ++ (get_or ps i d ++ all_entries (drop (suc i) ps))
  all_around [] i d h = absurd (omega arith)
  all_around (p ∷ ps) zero d h = refl
  all_around (p ∷ ps) (suc i) d h =
      ap (λ (es : List E). p ++ es) (all_around ps i d (omega arith)) ∙ sym (append_assoc p (all_entries (take i ps)) (get_or ps i d ++ all_entries (drop (suc i) ps)))

  pub all_set : (ps : List (List E)) (i : ℕ) (q : List E) → i < length ps → all_entries (set ps i q) ≡ all_entries (take i ps) ++ (q ++ all_entries (drop (suc i) ps))
  all_set [] i q h = absurd (omega arith)
  all_set (p ∷ ps) zero q h = refl
  all_set (p ∷ ps) (suc i) q h =
      ap (λ (es : List E). p ++ es) (all_set ps i q (omega arith)) ∙ sym (append_assoc p (all_entries (take i ps)) (q ++ all_entries (drop (suc i) ps)))

  -- how many entries a page has
  pub hold_at : (least : ℕ) (ps : List (List E)) (i : ℕ) (d : List E) → Hold least ps → i < length ps → (least ≤ length (get_or ps i d)) × (length (get_or ps i d) ≤ 64)
  hold_at least [] i d hold h = absurd (omega arith)
  hold_at least (p ∷ ps) zero d hold h = (hold.0, hold.1)
  hold_at least (p ∷ ps) (suc i) d hold h = hold_at least ps i d hold.2 (omega arith)

  pub hold_append : (least : ℕ) (ps qs : List (List E)) → Hold least ps → Hold least qs → Hold least (ps ++ qs)
  hold_append least [] qs hold_ps hold_qs = hold_qs
  hold_append least (p ∷ ps) qs hold_ps hold_qs = (hold_ps.0, hold_ps.1, hold_append least ps qs hold_ps.2 hold_qs)

  pub hold_take : (least i : ℕ) (ps : List (List E)) → Hold least ps → Hold least (take i ps)
  hold_take least zero ps hold = tt
  hold_take least (suc i) [] hold = tt
  hold_take least (suc i) (p ∷ ps) hold = (hold.0, hold.1, hold_take least i ps hold.2)

  pub hold_drop : (least i : ℕ) (ps : List (List E)) → Hold least ps → Hold least (drop i ps)
  hold_drop least zero ps hold = hold
  hold_drop least (suc i) [] hold = tt
  hold_drop least (suc i) (p ∷ ps) hold = hold_drop least i ps hold.2

  pub hold_set : (least : ℕ) (ps : List (List E)) (i : ℕ) (q : List E) → Hold least ps → least ≤ length q → length q ≤ 64 → Hold least (set ps i q)
  hold_set least [] i q hold low high = tt
  hold_set least (p ∷ ps) zero q hold low high = (low, high, hold.2)
  hold_set least (p ∷ ps) (suc i) q hold low high = (hold.0, hold.1, hold_set least ps i q hold.2 low high)

  -- pages with enough entries are few
  pub hold_count : (ps : List (List E)) → Hold 32 ps → 32 * length ps ≤ length (all_entries ps)
  hold_count [] hold = omega arith
  hold_count (p ∷ ps) hold = omega (arith, hold.0, length-append p (all_entries ps), hold_count ps hold.2)

  hold_one_by : (least : ℕ) (ps : List (List E)) → 1 ≤ least → Hold least ps → Hold 1 ps
  hold_one_by least [] h hold = tt
  hold_one_by least (p ∷ ps) h hold = (omega (arith, hold.0, h), hold.1, hold_one_by least ps h hold.2)

  -- no page is empty
  pub hold_one : (ps : List (List E)) → AreSized ps → Hold 1 ps
  hold_one ps sized = hold_one_by (least_among (length ps)) ps (least_one (length ps)) sized

  pub some_at : (ps : List (List E)) (i : ℕ) (d : List E) → AreSized ps → i < length ps → 0 < length (get_or ps i d)
  some_at ps i d sized h = omega (arith, least_one (length ps), (hold_at (least_among (length ps)) ps i d sized h).0)

  pub reads_some : (ps : List (List E)) (m : ℕ) (d : List E) → AreSized ps → m < length ps → d ≡ get_or ps m d → 0 < length d
  reads_some ps m d sized h is = subst (λ (p : List E). 0 < length p) (sym is) (some_at ps m d sized h)

  -- all entries around a page that is read
  pub reads_around : (ps : List (List E)) (i : ℕ) (d : List E) → i < length ps → d ≡ get_or ps i d → all_entries ps ≡ all_entries (take i ps) ++ (d ++ all_entries (drop (suc i) ps))
  reads_around ps i d h is = all_around ps i d h ∙ ap (λ (p : List E). all_entries (take i ps) ++ (p ++ all_entries (drop (suc i) ps))) (sym is)

first_of_page : {E : Type 0} (p : List E) (e : E) → 0 < length p → e ≡ get_or p 0 e → p ≡ e ∷ drop 1 p
first_of_page [] e some is = absurd (omega arith)
first_of_page {E = E} (x ∷ p) e some is = ap (λ (y : E). y ∷ p) (sym is)

module _ {E K : Type 0} (o : Order E K) (l : IsTotal o) where
  -- a page of the list has its entries in order
  pub reads_rises : (ps : List (List E)) (i : ℕ) (d : List E) → Rise o (all_entries ps) → i < length ps → d ≡ get_or ps i d → Rise o d
  reads_rises ps i d rise h is =
      let parts : Rise o (all_entries (take i ps) ++ (d ++ all_entries (drop (suc i) ps))) = subst (Rise o) (reads_around ps i d h is) rise in
      rise_front o l d (all_entries (drop (suc i) ps)) (rise_back o l (all_entries (take i ps)) (d ++ all_entries (drop (suc i) ps)) parts)

  -- what is said of all entries is said of the one page that can hold the key
  pub reads_entry : (ps : List (List E)) (k : K) (i : ℕ) (d : List E) → IsPageOf o ps k i → d ≡ get_or ps i d → entry_of o (all_entries ps) k ≡ entry_of o d k
  reads_entry ps k i d of is =
      ap (λ (es : List E). entry_of o es k) (reads_around ps i d of.0 is)
      ∙ entry_past o l (all_entries (take i ps)) (d ++ all_entries (drop (suc i) ps)) k of.1
      ∙ entry_front o l d (all_entries (drop (suc i) ps)) k of.2

  -- a search that found a page whose first entry doesn't come behind the key
  pub reads_low : (ps : List (List E)) (m : ℕ) (k : K) (d : List E) (e : E) → Rise o (all_entries ps) → AreSized ps → m < length ps → d ≡ get_or ps m d → e ≡ get_or d 0 e
      → is_lt (o.cmp k (o.key e)) ≡ false → AreBefore o (all_entries (take m ps)) k
  reads_low ps m k d e rise sized h is first low =
      let front = all_entries (take m ps) in
      let back = all_entries (drop (suc m) ps) in
      let page : d ≡ e ∷ drop 1 d = first_of_page d e (reads_some ps m d sized h is) first in
      let parts : all_entries ps ≡ front ++ e ∷ (drop 1 d ++ back) = reads_around ps m d h is ∙ ap (λ (p : List E). front ++ (p ++ back)) page in
      before_upto o l (o.key e) k front (before_first o l front (drop 1 d ++ back) e (subst (Rise o) parts rise)) low

  -- a search that found a page whose first entry comes behind the key
  pub reads_high : (ps : List (List E)) (m : ℕ) (k : K) (d : List E) (e : E) → Rise o (all_entries ps) → AreSized ps → m < length ps → d ≡ get_or ps m d → e ≡ get_or d 0 e
      → is_lt (o.cmp k (o.key e)) ≡ true → AreBehind o k (all_entries (drop m ps))
  reads_high ps m k d e rise sized h is first high =
      let front = all_entries (take m ps) in
      let back = all_entries (drop (suc m) ps) in
      let page : d ≡ e ∷ drop 1 d = first_of_page d e (reads_some ps m d sized h is) first in
      let parts : all_entries ps ≡ front ++ e ∷ (drop 1 d ++ back) = reads_around ps m d h is ∙ ap (λ (p : List E). front ++ (p ++ back)) page in
      let rest : Rise o (e ∷ (drop 1 d ++ back)) = rise_back o l front (e ∷ (drop 1 d ++ back)) (subst (Rise o) parts rise) in
      let here : o.cmp k (o.key e) ≡ Less = is_less (o.cmp k (o.key e)) high in
      let behind : AreBehind o k (e ∷ (drop 1 d ++ back)) = (here, behind_more o l k (o.key e) (drop 1 d ++ back) here rest.0) in
      let same : all_entries (drop m ps) ≡ e ∷ (drop 1 d ++ back) =
      ap all_entries (drop_from ps m d h) ∙ ap (λ (p : List E). p ++ back) (sym is ∙ page) in
      subst (AreBehind o k) (sym same) behind
