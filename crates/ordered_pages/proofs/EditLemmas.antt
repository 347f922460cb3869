-- An entry that is put, replaced or taken out in its page: what that makes of all entries.
use Rattle.std.specs.Prelude.{nat_lt}
use Rattle.std.specs.List.{insert, remove}
use Rattle.std.proofs.Common.{◌≡◌, ℕ, zero, suc, ◌+◌, ◌*◌, ◌<◌, ◌≤◌, List, [], ◌∷◌, ◌++◌, Bool, true, false, take, drop, length, get_or, set, Option, Some, None, if◌then◌else◌, refl, sym, ap, ◌∙◌, subst, arith}
use Rattle.std.proofs.lemmas.Bool.Decides.{nat_tests}
use Rattle.std.proofs.lemmas.List.{length-append}
use Rattle.ordered_pages.specs.Orders.{Order, IsTotal}
use Rattle.ordered_pages.specs.Entries.{AreBefore, AreBehind, Rise, entry_of, PutsAt}
use Rattle.ordered_pages.specs.inner.Places.{StandsAt, IsGap}
use Rattle.ordered_pages.specs.inner.Pages.{all_entries, Hold, least_among, AreSized, AreSizedBut, HasEntries, IsPage, IsPageOf, EditsPage}
use Rattle.ordered_pages.proofs.OrderLaws.{before_append, before_first, behind_append, entry_behind, entry_here, entry_past, puts_new, puts_none, puts_over, puts_past, one_list, rise_back, rise_front, rise_join, rise_with}
use Rattle.ordered_pages.proofs.PagesLemmas.{all_around, all_set, append_assoc, around, around_set, hold_at, hold_count, hold_drop, hold_set, hold_take, length_take, reads_around}

around_remove : {A : Type 0} (xs : List A) (i : ℕ) → i < length xs → remove xs i ≡ take i xs ++ drop (suc i) xs
around_remove [] i h = absurd (omega arith)
around_remove (x ∷ xs) zero h = refl
around_remove {A = A} (x ∷ xs) (suc i) h = ap (λ (ys : List A). x ∷ ys) (around_remove xs i (omega arith))

around_insert : {A : Type 0} (xs : List A) (i : ℕ) (y : A) → i ≤ length xs → insert xs i y ≡ take i xs ++ y ∷ drop i xs
around_insert xs zero y h = refl
around_insert [] (suc i) y h = absurd (omega arith)
around_insert {A = A} (x ∷ xs) (suc i) y h = ap (λ (ys : List A). x ∷ ys) (around_insert xs i y (omega arith))

append_none : {A : Type 0} (xs : List A) → xs ++ [] ≡ xs
append_none [] = refl
append_none {A = A} (x ∷ xs) = ap (λ (ys : List A). x ∷ ys) (append_none xs)

take_and_drop : {A : Type 0} (xs : List A) (i : ℕ) → xs ≡ take i xs ++ drop i xs
take_and_drop xs zero = refl
take_and_drop [] (suc i) = refl
take_and_drop {A = A} (x ∷ xs) (suc i) = ap (λ (ys : List A). x ∷ ys) (take_and_drop xs i)

regroup : {A : Type 0} (xs ys zs ws : List A) → xs ++ ((ys ++ zs) ++ ws) ≡ (xs ++ ys) ++ (zs ++ ws)
regroup {A = A} xs ys zs ws = ap (λ (vs : List A). xs ++ vs) (append_assoc ys zs ws) ∙ sym (append_assoc xs ys (zs ++ ws))

length_one_more : {A : Type 0} (xs ys : List A) (y : A) → length (xs ++ y ∷ ys) ≡ length (xs ++ ys) + 1
length_one_more [] ys y = omega arith
length_one_more (x ∷ xs) ys y = omega (arith, length_one_more xs ys y)

length_as_many : {A : Type 0} (xs ys : List A) (y z : A) → length (xs ++ y ∷ ys) ≡ length (xs ++ z ∷ ys)
length_as_many [] ys y z = refl
length_as_many (x ∷ xs) ys y z = ap suc (length_as_many xs ys y z)

pub length_set : {A : Type 0} (xs : List A) (i : ℕ) (y : A) → length (set xs i y) ≡ length xs
length_set [] i y = refl
length_set (x ∷ xs) zero y = refl
length_set (x ∷ xs) (suc i) y = ap suc (length_set xs i y)

-- the page that is read at a place is the page there
pub is_page : {A : Type 0} (ps : List A) (i : ℕ) (d : A) → i < length ps → d ≡ get_or ps i d → (i < length ps) × ((e : A) → get_or ps i e ≡ d)
is_page [] i d h is = absurd (omega arith)
is_page (p ∷ ps) zero d h is = (h, λ e. sym is)
is_page (p ∷ ps) (suc i) d h is = let rest = is_page ps i d (omega arith) is in (h, rest.1)

-- what an edit of one page makes of all entries
pub record Made {E K : Type 0} (o : Order E K) (before now : List E) (k : K) (slot : Option E) : Type 0 where
  pub rises : Rise o now
  pub puts : PutsAt o k slot before now

-- what each call says of all entries
pub record Replaces {E K : Type 0} (o : Order E K) (before now : List E) (k : K) (entry own : E) : Type 0 where
  pub made : Made o before now k (Some entry)
  pub long : length now ≡ length before
  pub was : entry_of o before k ≡ Some own

pub record Removes {E K : Type 0} (o : Order E K) (before now : List E) (k : K) (own : E) : Type 0 where
  pub made : Made o before now k None
  pub long : length now + 1 ≡ length before
  pub was : entry_of o before k ≡ Some own

pub record Inserts {E K : Type 0} (o : Order E K) (before now : List E) (k : K) (entry : E) : Type 0 where
  pub made : Made o before now k (Some entry)
  pub long : length now ≡ length before + 1
  pub was : entry_of o before k ≡ None

module _ {E K : Type 0} (o : Order E K) (l : IsTotal o) where
  -- edits between entries
  replaced_between : (xs ys : List E) (own entry : E) (k : K) → Rise o (xs ++ own ∷ ys) → o.key own ≡ k → o.key entry ≡ k → Replaces o (xs ++ own ∷ ys) (xs ++ entry ∷ ys) k entry own
  replaced_between xs ys own entry k rise was is =
      let before : AreBefore o xs (o.key own) = before_first o l xs ys own rise in
      let back : Rise o (own ∷ ys) = rise_back o l xs (own ∷ ys) rise in
      let same : o.key own ≡ o.key entry = was ∙ sym is in
      let below : AreBefore o xs k = subst (AreBefore o xs) was before in
      record {
        made = record {
          rises = rise_with o l xs ys entry (rise_front o l xs (own ∷ ys) rise) (subst (AreBefore o xs) same before) (subst (λ (j : K). AreBehind o j ys) same back.0) back.1;
          puts = puts_past o l xs (own ∷ ys) (entry ∷ ys) k (Some entry) below (puts_over o l ys own entry k was is);
        };
        long = length_as_many xs ys entry own;
        was = entry_past o l xs (own ∷ ys) k below ∙ entry_here o l ys own k was;
      }

  removed_between : (xs ys : List E) (own : E) (k : K) → Rise o (xs ++ own ∷ ys) → o.key own ≡ k → Removes o (xs ++ own ∷ ys) (xs ++ ys) k own
  removed_between xs ys own k rise was =
      let before : AreBefore o xs (o.key own) = before_first o l xs ys own rise in
      let back : Rise o (own ∷ ys) = rise_back o l xs (own ∷ ys) rise in
      let below : AreBefore o xs k = subst (AreBefore o xs) was before in
      record {
        made = record {
          rises = rise_join o l xs ys (o.key own) (rise_front o l xs (own ∷ ys) rise) before back.0 back.1;
          puts = puts_past o l xs (own ∷ ys) ys k None below (puts_none o l ys own k was (subst (λ (j : K). AreBehind o j ys) was back.0));
        };
        long = sym (length_one_more xs ys own);
        was = entry_past o l xs (own ∷ ys) k below ∙ entry_here o l ys own k was;
      }

  inserted_between : (xs ys : List E) (entry : E) (k : K) → Rise o (xs ++ ys) → AreBefore o xs k → AreBehind o k ys → o.key entry ≡ k → Inserts o (xs ++ ys) (xs ++ entry ∷ ys) k entry
  inserted_between xs ys entry k rise before behind is =
      record {
        made = record {
          rises = rise_with o l xs ys entry (rise_front o l xs ys rise) (subst (AreBefore o xs) (sym is) before) (subst (λ (j : K). AreBehind o j ys) (sym is) behind) (rise_back o l xs ys rise);
          puts = puts_past o l xs ys (entry ∷ ys) k (Some entry) before (puts_new o l ys entry k is);
        };
        long = length_one_more xs ys entry;
        was = entry_past o l xs ys k before ∙ entry_behind o l ys k behind;
      }

  -- all entries around one of a page
  parts_of : (ps : List (List E)) (i at : ℕ) (p : List E) (own : E) → i < length ps → p ≡ get_or ps i p → at < length p → own ≡ get_or p at own
      → all_entries ps ≡ (all_entries (take i ps) ++ take at p) ++ own ∷ (drop (suc at) p ++ all_entries (drop (suc i) ps))
  parts_of ps i at p own h is within here =
      reads_around ps i p h is
      ∙ ap (λ (q : List E). all_entries (take i ps) ++ (q ++ all_entries (drop (suc i) ps))) (around p at own within ∙ ap (λ (e : E). take at p ++ e ∷ drop (suc at) p) (sym here))
      ∙ regroup (all_entries (take i ps)) (take at p) (own ∷ drop (suc at) p) (all_entries (drop (suc i) ps))

  -- the same, as the calls say it
  pub replaced : (ps : List (List E)) (k : K) (i at : ℕ) (p q : List E) (own entry : E) → Rise o (all_entries ps) → i < length ps → p ≡ get_or ps i p → StandsAt o p k at → o.key entry ≡ k
      → q ≡ set p at entry → own ≡ get_or p at own → Replaces o (all_entries ps) (all_entries (set ps i q)) k entry own
  replaced ps k i at p q own entry rise h is here key made was =
      let front = all_entries (take i ps) in
      let back = all_entries (drop (suc i) ps) in
      let before = parts_of ps i at p own h is here.0 was in
      let now : all_entries (set ps i q) ≡ (front ++ take at p) ++ entry ∷ (drop (suc at) p ++ back) =
      all_set ps i q h ∙ ap (λ (r : List E). front ++ (r ++ back)) (made ∙ around_set p at entry here.0) ∙ regroup front (take at p) (entry ∷ drop (suc at) p) back in
      let own_key : o.key own ≡ k = ap (λ (e : E). o.key e) was ∙ here.1 own in
      let edit = replaced_between (front ++ take at p) (drop (suc at) p ++ back) own entry k (subst (Rise o) before rise) own_key key in
      subst (λ (es : List E). Replaces o es (all_entries (set ps i q)) k entry own) (sym before) (subst (λ (es : List E). Replaces o ((front ++ take at p) ++ own ∷ (drop (suc at) p ++ back)) es k entry own) (sym now) edit)

  pub removed : (ps : List (List E)) (k : K) (i at : ℕ) (p q : List E) (own : E) → Rise o (all_entries ps) → i < length ps → p ≡ get_or ps i p → StandsAt o p k at
      → q ≡ remove p at → own ≡ get_or p at own → Removes o (all_entries ps) (all_entries (set ps i q)) k own
  removed ps k i at p q own rise h is here made was =
      let front = all_entries (take i ps) in
      let back = all_entries (drop (suc i) ps) in
      let before = parts_of ps i at p own h is here.0 was in
      let now : all_entries (set ps i q) ≡ (front ++ take at p) ++ (drop (suc at) p ++ back) =
      all_set ps i q h ∙ ap (λ (r : List E). front ++ (r ++ back)) (made ∙ around_remove p at here.0) ∙ regroup front (take at p) (drop (suc at) p) back in
      let own_key : o.key own ≡ k = ap (λ (e : E). o.key e) was ∙ here.1 own in
      let edit = removed_between (front ++ take at p) (drop (suc at) p ++ back) own k (subst (Rise o) before rise) own_key in
      subst (λ (es : List E). Removes o es (all_entries (set ps i q)) k own) (sym before) (subst (λ (es : List E). Removes o ((front ++ take at p) ++ own ∷ (drop (suc at) p ++ back)) es k own) (sym now) edit)

  pub inserted : (ps : List (List E)) (k : K) (i at : ℕ) (p q : List E) (entry : E) → Rise o (all_entries ps) → IsPageOf o ps k i → p ≡ get_or ps i p → IsGap o p k at → o.key entry ≡ k
      → q ≡ insert p at entry → Inserts o (all_entries ps) (all_entries (set ps i q)) k entry
  inserted ps k i at p q entry rise of is gap key made =
      let front = all_entries (take i ps) in
      let back = all_entries (drop (suc i) ps) in
      let before : all_entries ps ≡ (front ++ take at p) ++ (drop at p ++ back) =
      reads_around ps i p of.0 is ∙ ap (λ (r : List E). front ++ (r ++ back)) (take_and_drop p at) ∙ regroup front (take at p) (drop at p) back in
      let now : all_entries (set ps i q) ≡ (front ++ take at p) ++ entry ∷ (drop at p ++ back) =
      all_set ps i q of.0 ∙ ap (λ (r : List E). front ++ (r ++ back)) (made ∙ around_insert p at entry gap.0) ∙ regroup front (take at p) (entry ∷ drop at p) back in
      let edit = inserted_between (front ++ take at p) (drop at p ++ back) entry k (subst (Rise o) before rise) (before_append o l k front (take at p) of.1 gap.1) (behind_append o l k (drop at p) back gap.2 of.2) key in
      subst (λ (es : List E). Inserts o es (all_entries (set ps i q)) k entry) (sym before) (subst (λ (es : List E). Inserts o ((front ++ take at p) ++ (drop at p ++ back)) es k entry) (sym now) edit)

  -- entries that come before a key, in parts
  before_parts : (k : K) (xs ys : List E) → AreBefore o (xs ++ ys) k → AreBefore o xs k × AreBefore o ys k
  before_parts k [] ys before = (tt, before)
  before_parts k (x ∷ xs) ys before = let rest = before_parts k xs ys before.1 in ((before.0, rest.0), rest.1)

  before_page : (k : K) (ps : List (List E)) (i : ℕ) (p : List E) → AreBefore o (all_entries ps) k → IsPage ps i p → AreBefore o p k
  before_page k [] i p before is = absurd (omega (arith, is.0))
  before_page k (q ∷ ps) zero p before is = subst (λ (r : List E). AreBefore o r k) (is.1 p) (before_parts k q (all_entries ps) before).0
  before_page k (q ∷ ps) (suc i) p before is = before_page k ps i p (before_parts k q (all_entries ps) before).1 (omega (arith, is.0), is.1)

  -- a key that comes behind all entries belongs into the last page
  pub last_page_of : (ps : List (List E)) (k : K) (i : ℕ) → suc i ≡ length ps → AreBefore o (all_entries ps) k → IsPageOf o ps k i
  last_page_of [] k i last before = absurd (omega (arith, last))
  last_page_of (p ∷ []) k zero last before = (omega arith, tt, tt)
  last_page_of (p ∷ q ∷ ps) k zero last before = absurd (omega (arith, last))
  last_page_of (p ∷ ps) k (suc i) last before =
      let parts = before_parts k p (all_entries ps) before in
      let rest = last_page_of ps k i (omega (arith, last)) parts.1 in
      (omega (arith, last), before_append o l k p (all_entries (take i ps)) parts.0 rest.1, rest.2)

  -- and at the end of any page that is asked for it
  end_gap : (k : K) (p : List E) → AreBefore o p k → IsGap o p k (length p)
  end_gap k [] before = (omega arith, tt, tt)
  end_gap k (x ∷ xs) before = let rest = end_gap k xs before.1 in (omega (arith, rest.0), (before.0, rest.1), rest.2)

  pub page_end : (ps : List (List E)) (k : K) (i at : ℕ) (p : List E) → AreBefore o (all_entries ps) k → IsPage ps i p → at ≡ length p → IsGap o p k at
  page_end ps k i at p before is end = subst (λ (n : ℕ). IsGap o p k n) (sym end) (end_gap k p (before_page k ps i p before is))

  -- the entries behind which one was put
  pub pushed : (es fs : List E) (entry : E) → Rise o es → Rise o fs → AreBefore o es (o.key entry) → PutsAt o (o.key entry) (Some entry) es fs → fs ≡ es ++ entry ∷ []
  pushed es fs entry rise rises before puts =
      let own : Rise o (es ++ entry ∷ []) = rise_with o l es [] entry rise before tt tt in
      let same : PutsAt o (o.key entry) (Some entry) (es ++ []) (es ++ entry ∷ []) = puts_past o l es [] (entry ∷ []) (o.key entry) (Some entry) before (puts_new o l [] entry (o.key entry) refl) in
      one_list o l fs (es ++ entry ∷ []) rises own (λ q. puts q ∙ sym (subst (λ (gs : List E). PutsAt o (o.key entry) (Some entry) gs (es ++ entry ∷ [])) (append_none es) same q))

many : (n : ℕ) → nat_lt 1 (suc (suc n)) ≡ true
many n = grind (arith, nat_tests)

least_by : (b : Bool) (m n : ℕ) → (if b then 32 else 1) ≤ m → m ≤ n + 1 → (if b then 31 else 0) ≤ n
least_by true m n low one = omega (arith, low, one)
least_by false m n low one = omega arith

module _ {E : Type 0} where
  take_set : (ps : List (List E)) (i : ℕ) (q : List E) → take i (set ps i q) ≡ take i ps
  take_set [] i q = refl
  take_set (p ∷ ps) zero q = refl
  take_set (p ∷ ps) (suc i) q = ap (λ (r : List (List E)). p ∷ r) (take_set ps i q)

  drop_set : (ps : List (List E)) (i : ℕ) (q : List E) → drop (suc i) (set ps i q) ≡ drop (suc i) ps
  drop_set [] i q = refl
  drop_set (p ∷ ps) zero q = refl
  drop_set (p ∷ ps) (suc i) q = drop_set ps i q

  length_drop : (ps : List (List E)) (i : ℕ) → length ps ≤ i + length (drop i ps)
  length_drop [] i = omega arith
  length_drop (p ∷ ps) zero = omega arith
  length_drop (p ∷ ps) (suc i) = omega (arith, length_drop ps i)

  get_set : (ps : List (List E)) (i : ℕ) (q d : List E) → i < length ps → get_or (set ps i q) i d ≡ q
  get_set [] i q d h = absurd (omega arith)
  get_set (p ∷ ps) zero q d h = refl
  get_set (p ∷ ps) (suc i) q d h = get_set ps i q d (omega arith)

  -- no page has more entries than it may
  pub page_most : (ps : List (List E)) (i : ℕ) (p : List E) → AreSized ps → IsPage ps i p → length p ≤ 64
  page_most ps i p sized is = let h = hold_at (least_among (length ps)) ps i p sized is.0 in let e = ap length (is.1 p) in omega (arith, h.1, e)

  -- a page that stays as long
  pub sized_still : (ps : List (List E)) (i : ℕ) (p q : List E) → AreSized ps → i < length ps → p ≡ get_or ps i p → length q ≡ length p → AreSized (set ps i q)
  sized_still ps i p q sized h is long =
      let held = hold_at (least_among (length ps)) ps i p sized h in
      let e = ap length is in
      subst (λ (n : ℕ). Hold (least_among n) (set ps i q)) (sym (length_set ps i q)) (hold_set (least_among (length ps)) ps i q sized (omega (arith, held.0, long, e)) (omega (arith, held.1, long, e)))

  but : (ps : List (List E)) (i : ℕ) → AreSized ps → i < length ps → AreSizedBut ps i
  but [] i sized h = absurd (omega arith)
  but (p ∷ []) zero sized h = (h, tt, tt)
  but (p ∷ []) (suc i) sized h = absurd (omega arith)
  but (p ∷ q ∷ ps) i sized h =
      let all : Hold 32 (p ∷ q ∷ ps) = subst (λ (b : Bool). Hold (if b then 32 else 1) (p ∷ q ∷ ps)) (many (length ps)) sized in
      (h, hold_take 32 i (p ∷ q ∷ ps) all, hold_drop 32 (suc i) (p ∷ q ∷ ps) all)

  -- the other pages after an edit of one
  pub but_edited : (ps qs : List (List E)) (i : ℕ) → AreSized ps → EditsPage ps i qs → AreSizedBut qs i
  but_edited ps qs i sized e =
      let old = but ps i sized e.2.0 in
      let made = e.3 in
      subst (λ (r : List (List E)). AreSizedBut r i) (sym made)
      (omega (arith, length_set ps i e.1, old.0), subst (Hold 32) (sym (take_set ps i e.1)) old.1, subst (Hold 32) (sym (drop_set ps i e.1)) old.2)

  -- the edited page
  pub entries_edited : (ps qs : List (List E)) (i n : ℕ) → AreSized ps → EditsPage ps i qs → n ≡ length ps → HasEntries qs i (if nat_lt 1 n then 31 else 0) 65
  entries_edited ps qs i n sized e long =
      let p = e.0 in
      let q = e.1 in
      let held = hold_at (least_among (length ps)) ps i p sized e.2.0 in
      let is = ap length (e.2.1 p) in
      let low : (if nat_lt 1 n then 31 else 0) ≤ length q = least_by (nat_lt 1 n) (length p) (length q) (subst (λ (k : ℕ). (if nat_lt 1 k then 32 else 1) ≤ length p) (sym long) (subst (λ (k : ℕ). least_among (length ps) ≤ k) is held.0)) e.5 in
      let high : length q ≤ 65 = omega (arith, held.1, is, e.4) in
      let here : i < length qs = omega (arith, ap length e.3, length_set ps i q, e.2.0) in
      (here, λ d. subst (λ (r : List E). ((if nat_lt 1 n then 31 else 0) ≤ length r) × (length r ≤ 65)) (sym (ap (λ (r : List (List E)). get_or r i d) e.3 ∙ get_set ps i q d e.2.0)) (low, high))

  -- a page of 65 entries among others has many entries beside it
  large_count : (ps : List (List E)) (i : ℕ) → AreSizedBut ps i → HasEntries ps i 65 65 → 32 * length ps + 33 ≤ length (all_entries ps)
  large_count ps i others large =
      let d : List E = [] in
      let all = ap length (all_around ps i d others.0) in
      let first = length-append (all_entries (take i ps)) (get_or ps i d ++ all_entries (drop (suc i) ps)) in
      let second = length-append (get_or ps i d) (all_entries (drop (suc i) ps)) in
      let before = hold_count (take i ps) others.1 in
      let behind = hold_count (drop (suc i) ps) others.2 in
      let long_before = length_take ps i (omega (arith, others.0)) in
      let long_behind = length_drop ps (suc i) in
      omega (arith, all, first, second, before, behind, long_before, long_behind, others.0, (large.1 d).0)

  pub spare_left : (ps : List (List E)) (i n m : ℕ) → AreSizedBut ps i → HasEntries ps i 65 65 → n ≡ length ps → length (all_entries ps) ≤ 32 * (n + m) → 0 < m
  spare_left ps i n m others large long fits = omega (arith, large_count ps i others large, long, fits)
