-- Places of pages: what an entry that is read there tells of a key.
use Rattle.std.proofs.Common.{◌≡◌, ℕ, zero, suc, ◌<◌, ◌≤◌, List, [], ◌∷◌, ◌++◌, take, drop, length, get_or, Some, None, Less, Equal, Greater, sym, ap, ◌∙◌, subst, arith}
use Rattle.std.proofs.lemmas.List.{append-nil, take_all}
use Rattle.ordered_pages.specs.Orders.{Order, IsTotal}
use Rattle.ordered_pages.specs.Entries.{AreBefore, AreBehind, Rise, entry_of}
use Rattle.ordered_pages.specs.inner.Pages.{all_entries, AreSized}
use Rattle.ordered_pages.specs.inner.Places.{IsPlace, entries_before}
use Rattle.ordered_pages.proofs.OrderLaws.{before_append, before_first, before_more, behind_more, entry_behind, entry_here, entry_past, less, rise_back}
use Rattle.ordered_pages.proofs.PagesLemmas.{append_assoc, around, get_same, reads_around, some_at, take_next}

regroup : {A : Type 0} (front first last back : List A) (e : A) → front ++ ((first ++ e ∷ last) ++ back) ≡ (front ++ first) ++ e ∷ (last ++ back)
regroup {A = A} front first last back e =
    ap (λ (xs : List A). front ++ xs) (append_assoc first (e ∷ last) back) ∙ sym (append_assoc front first (e ∷ (last ++ back)))

module _ {E : Type 0} where
  -- the page that is read at a place
  pub read_page : (ps : List (List E)) (i : ℕ) (d es : List E) → i < length ps → d ≡ get_or ps i d → es ≡ d → es ≡ get_or ps i []
  read_page ps i d es h is same = same ∙ is ∙ get_same ps i d [] h

  inside : (ps : List (List E)) (i j : ℕ) (d : List E) → IsPlace ps i j → d ≡ get_or ps i [] → j < length d
  inside ps i j d here is = subst (λ (p : List E). j < length p) (sym is) here.1

  -- all entries around one that is read
  place_around : (ps : List (List E)) (i j : ℕ) (d : List E) (e : E) → IsPlace ps i j → d ≡ get_or ps i [] → e ≡ get_or d j e
      → all_entries ps ≡ entries_before ps i j ++ e ∷ (drop (suc j) d ++ all_entries (drop (suc i) ps))
  place_around ps i j d e here is entry =
      let front = all_entries (take i ps) in
      let back = all_entries (drop (suc i) ps) in
      let parts : d ≡ take j d ++ e ∷ drop (suc j) d = around d j e (inside ps i j d here is) ∙ ap (λ (x : E). take j d ++ x ∷ drop (suc j) d) (sym entry) in
      reads_around ps i d here.0 (is ∙ get_same ps i [] d here.0)
      ∙ ap (λ (p : List E). front ++ (p ++ back)) parts
      ∙ regroup front (take j d) (drop (suc j) d) back e
      ∙ ap (λ (p : List E). (front ++ take j p) ++ e ∷ (drop (suc j) d ++ back)) is

  -- the entries before the next place
  before_next : (ps : List (List E)) (i j n : ℕ) (d : List E) (e : E) → IsPlace ps i j → d ≡ get_or ps i [] → e ≡ get_or d j e → n ≡ suc j
      → entries_before ps i n ≡ entries_before ps i j ++ e ∷ []
  before_next ps i j n d e here is entry next =
      let front = all_entries (take i ps) in
      ap (λ (m : ℕ). front ++ take m (get_or ps i [])) next
      ∙ ap (λ (p : List E). front ++ take (suc j) p) (sym is)
      ∙ ap (λ (es : List E). front ++ es) (take_next d j e (inside ps i j d here is) ∙ ap (λ (x : E). take j d ++ x ∷ []) (sym entry))
      ∙ sym (append_assoc front (take j d) (e ∷ []))
      ∙ ap (λ (p : List E). (front ++ take j p) ++ e ∷ []) is

  -- the entries before the end of a page are those of the pages up to it
  before_end : (ps : List (List E)) (i n : ℕ) → i < length ps → length (get_or ps i []) ≤ n → entries_before ps i n ≡ all_entries (take (suc i) ps)
  before_end [] i n h end = absurd (omega arith)
  before_end (p ∷ ps) zero n h end = take_all n p end ∙ sym (append-nil p)
  before_end (p ∷ ps) (suc i) n h end =
      append_assoc p (all_entries (take i ps)) (take n (get_or ps i [])) ∙ ap (λ (es : List E). p ++ es) (before_end ps i n (omega arith) end)

  pub next_page : (ps : List (List E)) (i n m : ℕ) → i < length ps → length (get_or ps i []) ≤ n → m ≡ suc i → entries_before ps i n ≡ entries_before ps m 0
  next_page ps i n m h end next =
      before_end ps i n h end ∙ ap (λ (k : ℕ). all_entries (take k ps)) (sym next) ∙ sym (append-nil (all_entries (take m ps)))

  pub last_page : (ps : List (List E)) (i n : ℕ) → i < length ps → length (get_or ps i []) ≤ n → length ps ≤ suc i → entries_before ps i n ≡ all_entries ps
  last_page ps i n h end last = before_end ps i n h end ∙ ap all_entries (take_all (suc i) ps last)

  pub first_place : (ps : List (List E)) (i : ℕ) → AreSized ps → i < length ps → IsPlace ps i 0
  first_place ps i sized h = (h, some_at ps i [] sized h)

module _ {E K : Type 0} (o : Order E K) (l : IsTotal o) where
  -- the entry at the place has the key
  pub found_at : (ps : List (List E)) (i j : ℕ) (k : K) (d : List E) (e : E) → Rise o (all_entries ps) → IsPlace ps i j → d ≡ get_or ps i [] → e ≡ get_or d j e
      → o.cmp k (o.key e) ≡ Equal → Some e ≡ entry_of o (all_entries ps) k
  found_at ps i j k d e rise here is entry same =
      let back = drop (suc j) d ++ all_entries (drop (suc i) ps) in
      let whole = place_around ps i j d e here is entry in
      let key : o.key e ≡ k = sym (l.same k (o.key e) same) in
      let before : AreBefore o (entries_before ps i j) k =
      subst (AreBefore o (entries_before ps i j)) key (before_first o l (entries_before ps i j) back e (subst (Rise o) whole rise)) in
      sym (ap (λ (es : List E). entry_of o es k) whole ∙ entry_past o l (entries_before ps i j) (e ∷ back) k before ∙ entry_here o l back e k key)

  -- it comes before the key, and so do those before it
  pub past_place : (ps : List (List E)) (i j n : ℕ) (k : K) (d : List E) (e : E) → Rise o (all_entries ps) → IsPlace ps i j → d ≡ get_or ps i [] → e ≡ get_or d j e
      → o.cmp k (o.key e) ≡ Greater → n ≡ suc j → AreBefore o (entries_before ps i n) k
  past_place ps i j n k d e rise here is entry after next =
      let back = drop (suc j) d ++ all_entries (drop (suc i) ps) in
      let front = entries_before ps i j in
      let under : o.cmp (o.key e) k ≡ Less = less o l k (o.key e) after in
      let before : AreBefore o front (o.key e) = before_first o l front back e (subst (Rise o) (place_around ps i j d e here is entry) rise) in
      subst (λ (es : List E). AreBefore o es k) (sym (before_next ps i j n d e here is entry next))
      (before_append o l k front (e ∷ []) (before_more o l (o.key e) k front before under) (under, tt))

  -- it comes behind the key, and those before it don't
  pub not_between : (ps : List (List E)) (i j : ℕ) (k : K) (d : List E) (e : E) → Rise o (all_entries ps) → IsPlace ps i j → d ≡ get_or ps i [] → e ≡ get_or d j e
      → AreBefore o (entries_before ps i j) k → o.cmp k (o.key e) ≡ Less → None ≡ entry_of o (all_entries ps) k
  not_between ps i j k d e rise here is entry before high =
      let back = drop (suc j) d ++ all_entries (drop (suc i) ps) in
      let front = entries_before ps i j in
      let whole = place_around ps i j d e here is entry in
      let rest : Rise o (e ∷ back) = rise_back o l front (e ∷ back) (subst (Rise o) whole rise) in
      let behind : AreBehind o k (e ∷ back) = (high, behind_more o l k (o.key e) back high rest.0) in
      sym (ap (λ (es : List E). entry_of o es k) whole ∙ entry_past o l front (e ∷ back) k before ∙ entry_behind o l (e ∷ back) k behind)

  -- it is the first of all, and comes behind the key
  pub not_before : (ps : List (List E)) (i j : ℕ) (k : K) (d : List E) (e : E) → Rise o (all_entries ps) → IsPlace ps i j → d ≡ get_or ps i [] → e ≡ get_or d j e
      → i ≡ 0 → j ≡ 0 → o.cmp k (o.key e) ≡ Less → None ≡ entry_of o (all_entries ps) k
  not_before ps zero zero k d e rise here is entry first start high = not_between ps 0 0 k d e rise here is entry tt high
  not_before ps zero (suc j) k d e rise here is entry first start high = absurd (omega (arith, start))
  not_before ps (suc i) j k d e rise here is entry first start high = absurd (omega (arith, first))

  -- all entries come before the key
  pub not_behind : (es : List E) (k : K) → AreBefore o es k → None ≡ entry_of o es k
  not_behind es k before = sym (ap (λ (xs : List E). entry_of o xs k) (sym (append-nil es)) ∙ entry_past o l es [] k before)
