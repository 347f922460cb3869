-- Pages that are parted, joined or evened out: all entries stay, and the bounds hold again.
use Rattle.std.specs.Prelude.{nat_lt}
use Rattle.std.specs.List.{insert, remove}
use Rattle.std.proofs.Common.{◌≡◌, ℕ, zero, suc, ◌+◌, ◌-◌, ◌<◌, ◌≤◌, List, [], ◌∷◌, ◌++◌, Bool, true, false, take, drop, length, get_or, set, if◌then◌else◌, refl, sym, ap, ◌∙◌, subst, arith}
use Rattle.std.proofs.lemmas.List.{length-append, take-append-drop}
use Rattle.std.proofs.lemmas.List.Edits.{length-insert, insert_end}
use Rattle.ordered_pages.specs.inner.Pages.{all_entries, Hold, least_among, AreSized, AreSizedBut, ArePair, HasEntries, IsPage}
use Rattle.ordered_pages.proofs.EditLemmas.{is_page}
use Rattle.ordered_pages.proofs.PagesLemmas.{append_assoc, around, hold_append, drop_from, length_take}

-- two pages side by side
pub around_two : {A : Type 0} (xs : List A) (i : ℕ) (d e : A) → suc i < length xs → xs ≡ take i xs ++ get_or xs i d ∷ get_or xs (suc i) e ∷ drop (suc (suc i)) xs
around_two {A = A} xs i d e h =
    around xs i d (omega arith) ∙ ap (λ (ys : List A). take i xs ++ get_or xs i d ∷ ys) (drop_from xs (suc i) e h)

-- the shapes of the edits
pub parted_shape : {A : Type 0} (xs : List A) (i : ℕ) (a b : A) → i < length xs → insert (set xs i a) (suc i) b ≡ take i xs ++ a ∷ b ∷ drop (suc i) xs
parted_shape [] i a b h = absurd (omega arith)
parted_shape (x ∷ xs) zero a b h = refl
parted_shape {A = A} (x ∷ xs) (suc i) a b h = ap (λ (ys : List A). x ∷ ys) (parted_shape xs i a b (omega arith))

pub joined_shape : {A : Type 0} (xs : List A) (i : ℕ) (a : A) → suc i < length xs → set (remove xs (suc i)) i a ≡ take i xs ++ a ∷ drop (suc (suc i)) xs
joined_shape [] i a h = absurd (omega arith)
joined_shape (x ∷ xs) zero a h = refl
joined_shape {A = A} (x ∷ xs) (suc i) a h = ap (λ (ys : List A). x ∷ ys) (joined_shape xs i a (omega arith))

pub second_first : {A : Type 0} (xs : List A) (i : ℕ) (a b : A) → suc i < length xs → set (set xs (suc i) b) i a ≡ take i xs ++ a ∷ b ∷ drop (suc (suc i)) xs
second_first [] i a b h = absurd (omega arith)
second_first (x ∷ []) zero a b h = absurd (omega arith)
second_first (x ∷ y ∷ xs) zero a b h = refl
second_first {A = A} (x ∷ xs) (suc i) a b h = ap (λ (ys : List A). x ∷ ys) (second_first xs i a b (omega arith))

pub first_second : {A : Type 0} (xs : List A) (i : ℕ) (a b : A) → suc i < length xs → set (set xs i a) (suc i) b ≡ take i xs ++ a ∷ b ∷ drop (suc (suc i)) xs
first_second [] i a b h = absurd (omega arith)
first_second (x ∷ []) zero a b h = absurd (omega arith)
first_second (x ∷ y ∷ xs) zero a b h = refl
first_second {A = A} (x ∷ xs) (suc i) a b h = ap (λ (ys : List A). x ∷ ys) (first_second xs i a b (omega arith))

test_least : (b : Bool) → (if b then 32 else 1) ≤ 32
test_least true = omega arith
test_least false = omega arith

get_set_before : {A : Type 0} (xs : List A) (i : ℕ) (y d : A) → get_or (set xs (suc i) y) i d ≡ get_or xs i d
get_set_before [] i y d = refl
get_set_before (x ∷ xs) zero y d = refl
get_set_before (x ∷ xs) (suc i) y d = get_set_before xs i y d

get_set_after : {A : Type 0} (xs : List A) (i : ℕ) (y d : A) → get_or (set xs i y) (suc i) d ≡ get_or xs (suc i) d
get_set_after [] i y d = refl
get_set_after (x ∷ xs) zero y d = refl
get_set_after (x ∷ xs) (suc i) y d = get_set_after xs i y d

get_remove_before : {A : Type 0} (xs : List A) (i : ℕ) (d : A) → get_or (remove xs (suc i)) i d ≡ get_or xs i d
get_remove_before [] i d = refl
get_remove_before (x ∷ xs) zero d = refl
get_remove_before (x ∷ xs) (suc i) d = get_remove_before xs i d

first_split : {A : Type 0} (xs : List A) (x : A) → 0 < length xs → x ≡ get_or xs 0 x → x ∷ remove xs 0 ≡ xs
first_split [] x h is = absurd (omega arith)
first_split {A = A} (y ∷ xs) x h is = ap (λ (z : A). z ∷ xs) is

last_split : {A : Type 0} (xs : List A) (k : ℕ) (x : A) → suc k ≡ length xs → x ≡ get_or xs k x → remove xs k ++ x ∷ [] ≡ xs
last_split [] k x h is = absurd (omega (arith, h))
last_split {A = A} (y ∷ []) zero x h is = ap (λ (z : A). z ∷ []) is
last_split (y ∷ z ∷ xs) zero x h is = absurd (omega (arith, h))
last_split {A = A} (y ∷ xs) (suc k) x h is = ap (λ (zs : List A). y ∷ zs) (last_split xs k x (omega (arith, h)) is)

pub past_first : (at count : ℕ) → 1 < count → count ≤ at + 1 → at ≡ suc (at - 1)
past_first at count some last = omega arith

-- what an edit keeps
pub record Keeps {E : Type 0} (before now : List (List E)) : Type 0 where
  pub entries : all_entries now ≡ all_entries before
  pub sizes : AreSized now

module _ {E : Type 0} where
  pub joined_entries : (xs zs : List (List E)) (p q : List E) → all_entries (xs ++ (p ++ q) ∷ zs) ≡ all_entries (xs ++ p ∷ q ∷ zs)
  joined_entries [] zs p q = append_assoc p q (all_entries zs)
  joined_entries (x ∷ xs) zs p q = ap (λ (rs : List E). x ++ rs) (joined_entries xs zs p q)

  pub moved_entries : (xs zs : List (List E)) (p q r s : List E) → r ++ s ≡ p ++ q → all_entries (xs ++ r ∷ s ∷ zs) ≡ all_entries (xs ++ p ∷ q ∷ zs)
  moved_entries xs zs p q r s same = sym (joined_entries xs zs r s) ∙ ap (λ (rs : List E). all_entries (xs ++ rs ∷ zs)) same ∙ joined_entries xs zs p q

  -- fewer entries are asked of each page
  hold_less : (least : ℕ) (ps : List (List E)) → least ≤ 32 → Hold 32 ps → Hold least ps
  hold_less least [] h hold = tt
  hold_less least (p ∷ ps) h hold = (omega (arith, hold.0), hold.1, hold_less least ps h hold.2)

  pub sized : (ps : List (List E)) → Hold 32 ps → AreSized ps
  sized ps hold = hold_less (least_among (length ps)) ps (test_least (nat_lt 1 (length ps))) hold

  pub sized_one : (xs zs : List (List E)) (p : List E) → Hold 32 xs → Hold 32 zs → 32 ≤ length p → length p ≤ 64 → AreSized (xs ++ p ∷ zs)
  sized_one xs zs p hold_xs hold_zs low high = sized (xs ++ p ∷ zs) (hold_append 32 xs (p ∷ zs) hold_xs (low, high, hold_zs))

  pub sized_two : (xs zs : List (List E)) (p q : List E) → Hold 32 xs → Hold 32 zs → 32 ≤ length p → length p ≤ 64 → 32 ≤ length q → length q ≤ 64 → AreSized (xs ++ p ∷ q ∷ zs)
  sized_two xs zs p q hold_xs hold_zs low high low_q high_q = sized (xs ++ p ∷ q ∷ zs) (hold_append 32 xs (p ∷ q ∷ zs) hold_xs (low, high, (low_q, high_q, hold_zs)))

  -- a page of 65 entries is parted
  pub parts : (ps qs : List (List E)) (i j : ℕ) (p a b : List E) → AreSizedBut ps i → p ≡ get_or ps i p → length p ≡ 65 → a ≡ take 32 p → b ≡ drop 32 p → j ≡ suc i → qs ≡ insert (set ps i a) j b → Keeps ps qs
  parts ps qs i j p a b others is long first last next made =
      let shape : qs ≡ take i ps ++ a ∷ b ∷ drop (suc i) ps = made ∙ ap (λ (k : ℕ). insert (set ps i a) k b) next ∙ parted_shape ps i a b others.0 in
      let whole : a ++ b ≡ p = ap (λ (r : List E). r ++ b) first ∙ ap (λ (r : List E). take 32 p ++ r) last ∙ take-append-drop 32 p in
      let old : ps ≡ take i ps ++ p ∷ drop (suc i) ps = around ps i p others.0 ∙ ap (λ (r : List E). take i ps ++ r ∷ drop (suc i) ps) (sym is) in
      let sum : length a + length b ≡ 65 = sym (length-append a b) ∙ ap length whole ∙ long in
      let front : length a ≡ 32 = ap length first ∙ length_take p 32 (omega arith) in
      record {
        entries = ap all_entries shape ∙ sym (joined_entries (take i ps) (drop (suc i) ps) a b) ∙ ap (λ (r : List E). all_entries (take i ps ++ r ∷ drop (suc i) ps)) whole ∙ sym (ap all_entries old);
        sizes = subst AreSized (sym shape) (sized_two (take i ps) (drop (suc i) ps) a b others.1 others.2 (omega arith) (omega arith) (omega arith) (omega arith));
      }

  page_same : (ps : List (List E)) (i : ℕ) (d e : List E) → i < length ps → get_or ps i d ≡ get_or ps i e
  page_same [] i d e h = absurd (omega arith)
  page_same (p ∷ ps) zero d e h = refl
  page_same (p ∷ ps) (suc i) d e h = page_same ps i d e (omega arith)

  old_pair : (ps : List (List E)) (i : ℕ) (p q : List E) → suc i < length ps → p ≡ get_or ps i p → q ≡ get_or ps (suc i) q → ps ≡ take i ps ++ p ∷ q ∷ drop (suc (suc i)) ps
  old_pair ps i p q h is_p is_q =
      around_two ps i p q h ∙ ap (λ (r : List E). take i ps ++ r ∷ get_or ps (suc i) q ∷ drop (suc (suc i)) ps) (sym is_p)
      ∙ ap (λ (r : List E). take i ps ++ p ∷ r ∷ drop (suc (suc i)) ps) (sym is_q)

  -- two pages become one
  pub joins : (ps rs : List (List E)) (i j : ℕ) (p q r : List E) → ArePair ps i → j ≡ suc i → q ≡ get_or ps j q → rs ≡ remove ps j → p ≡ get_or rs i p → r ≡ p ++ q
      → ((a : List E) (b : List E) → IsPage ps i a → IsPage ps (i + 1) b → (32 ≤ length a + length b) × (length a + length b ≤ 64)) → Keeps ps (set rs i r)
  joins ps rs i j p q r pair next is_q removed is_p joined both =
      let at_q : q ≡ get_or ps (suc i) q = is_q ∙ ap (λ (k : ℕ). get_or ps k q) next in
      let at_p : p ≡ get_or ps i p = is_p ∙ ap (λ (ts : List (List E)). get_or ts i p) (removed ∙ ap (remove ps) next) ∙ get_remove_before ps i p in
      let shape : set rs i r ≡ take i ps ++ r ∷ drop (suc (suc i)) ps = ap (λ (ts : List (List E)). set ts i r) (removed ∙ ap (remove ps) next) ∙ joined_shape ps i r pair.0 in
      let old = old_pair ps i p q pair.0 at_p at_q in
      let step : suc i ≡ i + 1 = omega arith in
      let sums = both p q (is_page ps i p (omega (arith, pair.0)) at_p) (subst (λ (k : ℕ). IsPage ps k q) step (is_page ps (suc i) q pair.0 at_q)) in
      let long : length r ≡ length p + length q = ap length joined ∙ length-append p q in
      record {
        entries = ap all_entries shape ∙ ap (λ (a : List E). all_entries (take i ps ++ a ∷ drop (suc (suc i)) ps)) joined ∙ joined_entries (take i ps) (drop (suc (suc i)) ps) p q ∙ sym (ap all_entries old);
        sizes = subst AreSized (sym shape) (sized_one (take i ps) (drop (suc (suc i)) ps) r pair.1 pair.2 (omega (arith, long, sums.0)) (omega (arith, long, sums.1)));
      }

  -- a entry moves to the page before
  pub takes : (ps : List (List E)) (i j n : ℕ) (p q s t u : List E) (entry : E) → ArePair ps i → HasEntries ps i 31 31 → HasEntries ps j 33 64 → j ≡ suc i
      → q ≡ get_or ps j q → entry ≡ get_or q 0 entry → s ≡ remove q 0 → t ≡ get_or (set ps j s) i t → p ≡ get_or (set ps j s) i p → n ≡ length t → u ≡ insert p n entry
      → Keeps ps (set (set ps j s) i u)
  takes ps i j n p q s t u entry pair own other next is_q is_row is_s is_t is_p is_n is_u =
      let at_q : q ≡ get_or ps (suc i) q = is_q ∙ ap (λ (k : ℕ). get_or ps k q) next in
      let at_p : p ≡ get_or ps i p = is_p ∙ ap (λ (k : ℕ). get_or (set ps k s) i p) next ∙ get_set_before ps i s p in
      let at_t : t ≡ get_or ps i t = is_t ∙ ap (λ (k : ℕ). get_or (set ps k s) i t) next ∙ get_set_before ps i s t in
      let same : t ≡ p = at_t ∙ page_same ps i t p (omega (arith, pair.0)) ∙ sym at_p in
      let old = old_pair ps i p q pair.0 at_p at_q in
      let shape : set (set ps j s) i u ≡ take i ps ++ u ∷ s ∷ drop (suc (suc i)) ps = ap (λ (k : ℕ). set (set ps k s) i u) next ∙ second_first ps i u s pair.0 in
      let long_p : length p ≡ 31 = let o = own.1 p in let e = ap length at_p in omega (arith, o.0, o.1, e) in
      let long_q : (33 ≤ length q) × (length q ≤ 64) = let o = other.1 q in let e = ap length is_q in (omega (arith, o.0, e), omega (arith, o.1, e)) in
      let added : u ≡ p ++ entry ∷ [] = is_u ∙ ap (λ (k : ℕ). insert p k entry) (is_n ∙ ap length same) ∙ insert_end p entry in
      let rest : entry ∷ s ≡ q = ap (λ (r : List E). entry ∷ r) is_s ∙ first_split q entry (omega (arith, long_q.0)) is_row in
      let whole : u ++ s ≡ p ++ q = ap (λ (r : List E). r ++ s) added ∙ append_assoc p (entry ∷ []) s ∙ ap (λ (r : List E). p ++ r) rest in
      let long_u : length u ≡ length p + 1 = ap length added ∙ length-append p (entry ∷ []) in
      let long_s : length s + 1 ≡ length q = let e = ap length rest in omega (arith, e) in
      record {
        entries = ap all_entries shape ∙ moved_entries (take i ps) (drop (suc (suc i)) ps) p q u s whole ∙ sym (ap all_entries old);
        sizes = subst AreSized (sym shape) (sized_two (take i ps) (drop (suc (suc i)) ps) u s pair.1 pair.2 (omega (arith, long_u, long_p)) (omega (arith, long_u, long_p)) (omega (arith, long_s, long_q.0)) (omega (arith, long_s, long_q.1)));
      }

  -- a entry moves to the page behind
  pub gives : (ps : List (List E)) (i j k : ℕ) (p q s t u : List E) (entry : E) → ArePair ps i → HasEntries ps i 33 64 → HasEntries ps j 31 31 → j ≡ suc i
      → t ≡ get_or ps i t → k ≡ length t - 1 → p ≡ get_or ps i p → entry ≡ get_or p k entry → s ≡ remove p k → q ≡ get_or (set ps i s) j q → u ≡ insert q 0 entry
      → Keeps ps (set (set ps i s) j u)
  gives ps i j k p q s t u entry pair own other next at_t is_k at_p is_row is_s is_q is_u =
      let at_q : q ≡ get_or ps (suc i) q = is_q ∙ ap (λ (m : ℕ). get_or (set ps i s) m q) next ∙ get_set_after ps i s q in
      let same : t ≡ p = at_t ∙ page_same ps i t p (omega (arith, pair.0)) ∙ sym at_p in
      let old = old_pair ps i p q pair.0 at_p at_q in
      let shape : set (set ps i s) j u ≡ take i ps ++ s ∷ u ∷ drop (suc (suc i)) ps = ap (λ (m : ℕ). set (set ps i s) m u) next ∙ first_second ps i s u pair.0 in
      let long_p : (33 ≤ length p) × (length p ≤ 64) = let o = own.1 p in let e = ap length at_p in (omega (arith, o.0, e), omega (arith, o.1, e)) in
      let long_q : length q ≡ 31 = let o = (subst (λ (m : ℕ). HasEntries ps m 31 31) next other).1 q in let e = ap length at_q in omega (arith, o.0, o.1, e) in
      let last : suc k ≡ length p = let e = ap length same in omega (arith, is_k, e, long_p.0) in
      let front : s ++ entry ∷ [] ≡ p = ap (λ (r : List E). r ++ entry ∷ []) is_s ∙ last_split p k entry last is_row in
      let whole : s ++ u ≡ p ++ q = ap (λ (r : List E). s ++ r) is_u ∙ sym (append_assoc s (entry ∷ []) q) ∙ ap (λ (r : List E). r ++ q) front in
      let long_s : length s + 1 ≡ length p = sym (length-append s (entry ∷ [])) ∙ ap length front in
      let long_u : length u ≡ length q + 1 = ap length is_u ∙ length-insert q 0 entry (omega arith) in
      record {
        entries = ap all_entries shape ∙ moved_entries (take i ps) (drop (suc (suc i)) ps) p q s u whole ∙ sym (ap all_entries old);
        sizes = subst AreSized (sym shape) (sized_two (take i ps) (drop (suc (suc i)) ps) s u pair.1 pair.2 (omega (arith, long_s, long_p.0)) (omega (arith, long_s, long_p.1)) (omega (arith, long_u, long_q)) (omega (arith, long_u, long_q)));
      }

  hold_take_less : (ps : List (List E)) (j : ℕ) → Hold 32 (take (suc j) ps) → Hold 32 (take j ps)
  hold_take_less ps zero hold = tt
  hold_take_less [] (suc j) hold = tt
  hold_take_less (p ∷ ps) (suc j) hold = (hold.0, hold.1, hold_take_less ps j hold.2)

  hold_take_at : (ps : List (List E)) (j : ℕ) (d : List E) → j < length ps → Hold 32 (take (suc j) ps) → (31 ≤ length (get_or ps j d)) × (length (get_or ps j d) ≤ 64)
  hold_take_at [] j d h hold = absurd (omega arith)
  hold_take_at (p ∷ ps) zero d h hold = (omega (arith, hold.0), hold.1)
  hold_take_at (p ∷ ps) (suc j) d h hold = hold_take_at ps j d (omega arith) hold.2

  next_held : (ps : List (List E)) (i : ℕ) (d : List E) → suc i < length ps → Hold 32 (drop (suc i) ps) → (32 ≤ length (get_or ps (suc i) d)) × (length (get_or ps (suc i) d) ≤ 64) × Hold 32 (drop (suc (suc i)) ps)
  next_held ps i d h hold = subst (Hold 32) (drop_from ps (suc i) d h) hold

  -- the page and the next one
  pub pair_here : (ps : List (List E)) (i : ℕ) → AreSizedBut ps i → suc i < length ps → ArePair ps i
  pair_here ps i others h = (h, others.1, (next_held ps i [] h others.2).2)

  pub next_entries : (ps : List (List E)) (i : ℕ) → AreSizedBut ps i → suc i < length ps → HasEntries ps (i + 1) 31 64
  next_entries ps i others h =
      let step : suc i ≡ i + 1 = omega arith in
      subst (λ (k : ℕ). HasEntries ps k 31 64) step (h, λ d. let o = next_held ps i d h others.2 in (omega (arith, o.0), o.1))

  -- the page and the one before
  pub pair_left : (ps : List (List E)) (i j : ℕ) → i ≡ suc j → AreSizedBut ps i → ArePair ps j
  pair_left ps i j is others = let o = subst (AreSizedBut ps) is others in (o.0, hold_take_less ps j o.1, o.2)

  pub left_entries : (ps : List (List E)) (i j : ℕ) → i ≡ suc j → AreSizedBut ps i → HasEntries ps j 31 64
  left_entries ps i j is others = let o = subst (AreSizedBut ps) is others in let h : j < length ps = omega (arith, o.0) in (h, λ d. hold_take_at ps j d h o.1)

  -- all pages have enough entries
  pub sized_but : (ps : List (List E)) (i : ℕ) (d : List E) → AreSizedBut ps i → 32 ≤ length (get_or ps i d) → length (get_or ps i d) ≤ 64 → AreSized ps
  sized_but ps i d others low high = subst AreSized (sym (around ps i d others.0)) (sized_one (take i ps) (drop (suc i) ps) (get_or ps i d) others.1 others.2 low high)

  pub sized_pair : (ps : List (List E)) (i j : ℕ) (p q : List E) → ArePair ps i → j ≡ suc i → p ≡ get_or ps i p → q ≡ get_or ps j q → 32 ≤ length p → length p ≤ 64 → 32 ≤ length q → length q ≤ 64 → AreSized ps
  sized_pair ps i j p q pair next is_p is_q low high low_q high_q =
      let old = old_pair ps i p q pair.0 is_p (is_q ∙ ap (λ (k : ℕ). get_or ps k q) next) in
      subst AreSized (sym old) (sized_two (take i ps) (drop (suc (suc i)) ps) p q pair.1 pair.2 low high low_q high_q)

  pub entries_most : (ps : List (List E)) (i least most : ℕ) (p : List E) → HasEntries ps i least most → p ≡ get_or ps i p → length p ≤ most
  entries_most ps i least most p has is = let e = ap length is in omega (arith, (has.1 p).1, e)

  pub large_is : (ps : List (List E)) (i : ℕ) (p : List E) → HasEntries ps i 65 65 → p ≡ get_or ps i p → length p ≡ 65
  large_is ps i p has is = let e = ap length is in omega (arith, (has.1 p).0, (has.1 p).1, e)
