-- Tables without rows for names that notes will add.
use Rattle.std.proofs.Common.{◌≡◌, ℕ, zero, suc, ◌≤◌, ◌||◌, List, [], ◌∷◌, ◌++◌, Bool, true, false, length, take, if◌then◌else◌, refl, sym, ◌∙◌, ap, subst, arith}
use Rattle.std.proofs.lemmas.Bool.{false≢true}
use Rattle.std.specs.Str.{bytes_eq}
use mathlib.Core.Logic.{inl, inr}
use Rattle.row_store.specs.Rows.{Rows}
use Rattle.row_store.specs.Changes.{AreOld}
use Rattle.row_changes.specs.Changed.{changed}
use Rattle.change_feed.specs.declared.note.TableChange.{TableChange}
use Rattle.change_feed.specs.Shown.{Named, rows_at, with_change, after_changes, Fit}
use Rattle.change_feed.proofs.NameLemmas.{names, one_name, picks, passes}
use Rattle.feed_mirror.specs.Padded.{has_name, with_name, with_names, AllThere}

pub two_ways : {P : Type 0} (b : Bool) → (b ≡ true → P) → (b ≡ false → P) → P
two_ways true one other = one refl
two_ways false one other = other refl

pub whole : {A : Type 0} (xs : List A) → take (length xs) xs ≡ xs
whole [] = refl
whole (x ∷ xs) = ap (λ ys. x ∷ ys) (whole xs)

pub take_take : {A : Type 0} (m n : ℕ) (xs : List A) → m ≤ n → take m (take n xs) ≡ take m xs
take_take zero n xs h = refl
take_take (suc m) zero xs h = absurd (omega arith)
take_take (suc m) (suc n) [] h = refl
take_take (suc m) (suc n) (x ∷ xs) h = ap (λ ys. x ∷ ys) (take_take m n xs (omega arith))

-- ---- names

pub has_here : (t : List ℕ × Rows) (ts : Named) (name : List ℕ) → bytes_eq t.0 name ≡ true → has_name name (t ∷ ts) ≡ true
has_here t ts name e = ap (λ (b : Bool). b || has_name name ts) e

pub has_later : (t : List ℕ × Rows) (ts : Named) (name : List ℕ) → bytes_eq t.0 name ≡ false → has_name name (t ∷ ts) ≡ has_name name ts
has_later t ts name e = ap (λ (b : Bool). b || has_name name ts) e

-- a name that is there needs no table
pub name_there : (name : List ℕ) (s : Named) → has_name name s ≡ true → with_name name s ≡ s
name_there name [] h = absurd (false≢true h)
name_there name (t ∷ ts) h =
    elim (names t.0 name) [
      | inl y ↦ picks (bytes_eq t.0 name) (t ∷ ts) (t ∷ with_name name ts) y.0
      | inr n ↦ passes (bytes_eq t.0 name) (t ∷ ts) (t ∷ with_name name ts) n.0 ∙ ap (λ (us : Named). t ∷ us) (name_there name ts (sym (has_later t ts name n.0) ∙ h))
    ]

-- one that isn't gets it behind the others
pub name_new : (name : List ℕ) (s : Named) → has_name name s ≡ false → with_name name s ≡ s ++ (name, []) ∷ []
name_new name [] h = refl
name_new name (t ∷ ts) h =
    elim (names t.0 name) [
      | inl y ↦ absurd (false≢true (sym h ∙ has_here t ts name y.0))
      | inr n ↦ passes (bytes_eq t.0 name) (t ∷ ts) (t ∷ with_name name ts) n.0 ∙ ap (λ (us : Named). t ∷ us) (name_new name ts (sym (has_later t ts name n.0) ∙ h))
    ]

-- what was there stands first
name_begins : (name : List ℕ) (s : Named) → take (length s) (with_name name s) ≡ s
name_begins name [] = refl
name_begins name (t ∷ ts) =
    elim (names t.0 name) [
      | inl y ↦ ap (λ (us : Named). take (length (t ∷ ts)) us) (picks (bytes_eq t.0 name) (t ∷ ts) (t ∷ with_name name ts) y.0) ∙ whole (t ∷ ts)
      | inr n ↦ ap (λ (us : Named). take (length (t ∷ ts)) us) (passes (bytes_eq t.0 name) (t ∷ ts) (t ∷ with_name name ts) n.0) ∙ ap (λ (us : Named). t ∷ us) (name_begins name ts)
    ]

name_more : (name : List ℕ) (s : Named) → length s ≤ length (with_name name s)
name_more name [] = omega arith
name_more name (t ∷ ts) =
    elim (names t.0 name) [
      | inl y ↦ let e = ap (λ (us : Named). length us) (picks (bytes_eq t.0 name) (t ∷ ts) (t ∷ with_name name ts) y.0) in omega (arith, e)
      | inr n ↦ let e = ap (λ (us : Named). length us) (passes (bytes_eq t.0 name) (t ∷ ts) (t ∷ with_name name ts) n.0) in let h = name_more name ts in omega (arith, e, h)
    ]

pub names_begin : (cs : List TableChange) (s : Named) → take (length s) (with_names cs s) ≡ s
names_begin [] s = whole s
names_begin (c ∷ cs) s =
    let u : Named = with_name c.table s in
    sym (take_take (length s) (length u) (with_names cs u) (name_more c.table s)) ∙ ap (λ (us : Named). take (length s) us) (names_begin cs u) ∙ name_begins c.table s

pub names_both : (ls bs : List TableChange) (s : Named) → with_names (ls ++ bs) s ≡ with_names bs (with_names ls s)
names_both [] bs s = refl
names_both (a ∷ ls) bs s = names_both ls bs (with_name a.table s)

has_with_name : (m n : List ℕ) (u : Named) → has_name m u ≡ true → has_name m (with_name n u) ≡ true
has_with_name m n [] h = absurd (false≢true h)
has_with_name m n (t ∷ ts) h =
    elim (names t.0 n) [
      | inl y ↦ ap (has_name m) (picks (bytes_eq t.0 n) (t ∷ ts) (t ∷ with_name n ts) y.0) ∙ h
      | inr k ↦
          ap (has_name m) (passes (bytes_eq t.0 n) (t ∷ ts) (t ∷ with_name n ts) k.0)
          ∙ elim (names t.0 m) [ inl y ↦ has_here t (with_name n ts) m y.0 | inr o ↦ has_later t (with_name n ts) m o.0 ∙ has_with_name m n ts (sym (has_later t ts m o.0) ∙ h) ]
    ]

has_new : (n : List ℕ) (u : Named) → has_name n (with_name n u) ≡ true
has_new n [] = has_here (n, []) [] n (one_name n n refl)
has_new n (t ∷ ts) =
    elim (names t.0 n) [
      | inl y ↦ ap (has_name n) (picks (bytes_eq t.0 n) (t ∷ ts) (t ∷ with_name n ts) y.0) ∙ has_here t ts n y.0
      | inr k ↦ ap (has_name n) (passes (bytes_eq t.0 n) (t ∷ ts) (t ∷ with_name n ts) k.0) ∙ has_later t (with_name n ts) n k.0 ∙ has_new n ts
    ]

has_names : (cs : List TableChange) (m : List ℕ) (u : Named) → has_name m u ≡ true → has_name m (with_names cs u) ≡ true
has_names [] m u h = h
has_names (c ∷ cs) m u h = has_names cs m (with_name c.table u) (has_with_name m c.table u h)

pub there_names : (ls cs : List TableChange) (s : Named) → AllThere ls s → AllThere ls (with_names cs s)
there_names [] cs s h = tt
there_names (a ∷ ls) cs s h = (has_names cs a.table s h.0, there_names ls cs s h.1)

-- after that each name is there
pub all_there : (cs : List TableChange) (s : Named) → AllThere cs (with_names cs s)
all_there [] s = tt
all_there (c ∷ cs) s = (has_names cs c.table (with_name c.table s) (has_new c.table s), all_there cs (with_name c.table s))

pub there_first : (ls bs : List TableChange) (s : Named) → AllThere (ls ++ bs) s → AllThere ls s
there_first [] bs s h = tt
there_first (c ∷ ls) bs s h = (h.0, there_first ls bs s h.1)

pub names_more : (cs : List TableChange) (s : Named) → length s ≤ length (with_names cs s)
names_more [] s = omega arith
names_more (c ∷ cs) s = let a = name_more c.table s in let b = names_more cs (with_name c.table s) in omega (arith, a, b)

-- ---- they change nothing but names

rows_name : (n m : List ℕ) (s : Named) → rows_at (with_name n s) m ≡ rows_at s m
rows_name n m [] = two_ways (bytes_eq n m) (λ e. picks (bytes_eq n m) [] [] e) (λ e. passes (bytes_eq n m) [] [] e)
rows_name n m (t ∷ ts) =
    elim (names t.0 n) [
      | inl y ↦ ap (λ (us : Named). rows_at us m) (picks (bytes_eq t.0 n) (t ∷ ts) (t ∷ with_name n ts) y.0)
      | inr k ↦ ap (λ (us : Named). rows_at us m) (passes (bytes_eq t.0 n) (t ∷ ts) (t ∷ with_name n ts) k.0) ∙ ap (λ (rows : Rows). if bytes_eq t.0 m then t.1 else rows) (rows_name n m ts)
    ]

rows_names : (cs : List TableChange) (s : Named) (m : List ℕ) → rows_at (with_names cs s) m ≡ rows_at s m
rows_names [] s m = refl
rows_names (c ∷ cs) s m = rows_names cs (with_name c.table s) m ∙ rows_name c.table m s

abbrev put_change : TableChange → List ℕ × Rows → List ℕ × Rows
put_change c t = (t.0, changed t.1 c.changes)

here : (c : TableChange) (t : List ℕ × Rows) (ts : Named) → bytes_eq t.0 c.table ≡ true → with_change c (t ∷ ts) ≡ put_change c t ∷ ts
here c t ts e = picks (bytes_eq t.0 c.table) (put_change c t ∷ ts) (t ∷ with_change c ts) e

later : (c : TableChange) (t : List ℕ × Rows) (ts : Named) → bytes_eq t.0 c.table ≡ false → with_change c (t ∷ ts) ≡ t ∷ with_change c ts
later c t ts e = passes (bytes_eq t.0 c.table) (put_change c t ∷ ts) (t ∷ with_change c ts) e

pads_here : (n : List ℕ) (t : List ℕ × Rows) (ts : Named) → bytes_eq t.0 n ≡ true → with_name n (t ∷ ts) ≡ t ∷ ts
pads_here n t ts e = picks (bytes_eq t.0 n) (t ∷ ts) (t ∷ with_name n ts) e

pads_later : (n : List ℕ) (t : List ℕ × Rows) (ts : Named) → bytes_eq t.0 n ≡ false → with_name n (t ∷ ts) ≡ t ∷ with_name n ts
pads_later n t ts e = passes (bytes_eq t.0 n) (t ∷ ts) (t ∷ with_name n ts) e

change_name : (c : TableChange) (s : Named) → with_change c (with_name c.table s) ≡ with_change c s
change_name c [] = here c (c.table, []) [] (one_name c.table c.table refl)
change_name c (t ∷ ts) =
    elim (names t.0 c.table) [
      | inl y ↦ ap (with_change c) (pads_here c.table t ts y.0)
      | inr n ↦ ap (with_change c) (pads_later c.table t ts n.0) ∙ later c t (with_name c.table ts) n.0 ∙ ap (λ (us : Named). t ∷ us) (change_name c ts) ∙ sym (later c t ts n.0)
    ]

change_pads : (c : TableChange) (m : List ℕ) (u : Named) → has_name c.table u ≡ true → with_change c (with_name m u) ≡ with_name m (with_change c u)
change_pads c m [] h = absurd (false≢true h)
change_pads c m (t ∷ ts) h =
    elim (names t.0 c.table) [
      | inl y ↦
          elim (names t.0 m) [
            | inl z ↦ ap (with_change c) (pads_here m t ts z.0) ∙ here c t ts y.0 ∙ sym (ap (with_name m) (here c t ts y.0) ∙ pads_here m (put_change c t) ts z.0)
            | inr z ↦ ap (with_change c) (pads_later m t ts z.0) ∙ here c t (with_name m ts) y.0 ∙ sym (ap (with_name m) (here c t ts y.0) ∙ pads_later m (put_change c t) ts z.0)
          ]
      | inr n ↦
          elim (names t.0 m) [
            | inl z ↦ ap (with_change c) (pads_here m t ts z.0) ∙ later c t ts n.0 ∙ sym (ap (with_name m) (later c t ts n.0) ∙ pads_here m t (with_change c ts) z.0)
            | inr z ↦
                ap (with_change c) (pads_later m t ts z.0) ∙ later c t (with_name m ts) n.0
                ∙ ap (λ (us : Named). t ∷ us) (change_pads c m ts (sym (has_later t ts c.table n.0) ∙ h))
                ∙ sym (ap (with_name m) (later c t ts n.0) ∙ pads_later m t (with_change c ts) z.0)
          ]
    ]

change_padded : (c : TableChange) (cs : List TableChange) (u : Named) → has_name c.table u ≡ true → with_change c (with_names cs u) ≡ with_names cs (with_change c u)
change_padded c [] u h = refl
change_padded c (d ∷ ds) u h = change_padded c ds (with_name d.table u) (has_with_name c.table d.table u h) ∙ ap (with_names ds) (change_pads c d.table u h)

padded_change : (c : TableChange) (cs : List TableChange) (s : Named) → with_change c (with_names (c ∷ cs) s) ≡ with_names cs (with_change c s)
padded_change c cs s = change_padded c cs (with_name c.table s) (has_new c.table s) ∙ ap (with_names cs) (change_name c s)

-- WHAT CHANGES MAKE OF THE TABLES THAT WAIT FOR THEM is what they make of those that are shown
pub after_padded : (cs : List TableChange) (s : Named) → after_changes cs (with_names cs s) ≡ after_changes cs s
after_padded [] s = refl
after_padded (c ∷ cs) s = ap (after_changes cs) (padded_change c cs s) ∙ after_padded cs (with_change c s)

pub fit_padded : (cs : List TableChange) (s : Named) → Fit cs s → Fit cs (with_names cs s)
fit_padded [] s h = tt
fit_padded (c ∷ cs) s h = (
  subst (λ (rows : Rows). AreOld rows c.changes) (sym (rows_names (c ∷ cs) s c.table)) h.0,
  subst (λ (us : Named). Fit cs us) (sym (padded_change c cs s)) (fit_padded cs (with_change c s) h.1),
)

-- ---- a change of a table that is there

pub has_change : (c : TableChange) (m : List ℕ) (u : Named) → has_name c.table u ≡ true → has_name m (with_change c u) ≡ has_name m u
has_change c m [] h = absurd (false≢true h)
has_change c m (t ∷ ts) h =
    elim (names t.0 c.table) [
      | inl y ↦ ap (has_name m) (here c t ts y.0)
      | inr n ↦ ap (has_name m) (later c t ts n.0) ∙ ap (λ (b : Bool). bytes_eq t.0 m || b) (has_change c m ts (sym (has_later t ts c.table n.0) ∙ h))
    ]

pub there_change : (c : TableChange) (cs : List TableChange) (u : Named) → has_name c.table u ≡ true → AllThere cs u → AllThere cs (with_change c u)
there_change c [] u h all = tt
there_change c (d ∷ ds) u h all = (has_change c d.table u h ∙ all.0, there_change c ds u h all.1)

pub after_both : (ls bs : List TableChange) (s : Named) → after_changes (ls ++ bs) s ≡ after_changes bs (after_changes ls s)
after_both [] bs s = refl
after_both (a ∷ ls) bs s = after_both ls bs (with_change a s)

pub fit_both : (ls bs : List TableChange) (s : Named) → Fit ls s → Fit bs (after_changes ls s) → Fit (ls ++ bs) s
fit_both [] bs s a b = b
fit_both (c ∷ ls) bs s a b = (a.0, fit_both ls bs (with_change c s) a.1 b)

pub fit_first : (ls bs : List TableChange) (s : Named) → Fit (ls ++ bs) s → Fit ls s
fit_first [] bs s h = tt
fit_first (c ∷ ls) bs s h = (h.0, fit_first ls bs (with_change c s) h.1)
