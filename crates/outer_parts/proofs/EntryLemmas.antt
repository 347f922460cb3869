-- Entries that have a half, and how many.
use Rattle.std.proofs.Common.{◌≡◌, ℕ, ◌+◌, ◌≤◌, ◌==◌, ◌&&◌, [], ◌∷◌, count_by, filter, Bool, true, false, Option, Some, refl, ap, ◌∙◌, arith}
use Rattle.std.proofs.lemmas.Bool.{and_parts, eq-eqb, eqb-true}
use Rattle.id_memory.specs.Pairs.{Pairs, has_pair, pair_of}
use Rattle.row_parts.specs.RowCells.{by_test}
use Rattle.pair_rows.specs.Shown.{has}
use Rattle.pair_rows.specs.Stays.{stands}
use Rattle.pair_rows.specs.inner.Numbers.{count_cons}
use Rattle.pair_rows.specs.inner.PairLemmas.{count_no, count_yes}
use Rattle.outer_law.specs.Entries.{with_half}
use Rattle.pair_parts.specs.Parts.{memory_only}
use Rattle.cond_parts.proofs.MemoryLemmas.{Each}

-- what stands in an entry is counted
pub stands_count : (pick : ℕ × ℕ × ℕ → ℕ) (es : Pairs) (q : ℕ) → stands pick es q ≡ true → 1 ≤ with_half pick q es
stands_count pick [] q e = absurd (cc)
stands_count pick (x ∷ xs) q e =
    by_test (pick x == q)
    (λ u. let more = count_yes (λ y. pick y == q) x xs u in omega (arith, more))
    (λ u. let rest : stands pick xs q ≡ true = rw u at e in let ih = stands_count pick xs q rest in let same = count_no (λ y. pick y == q) x xs u in omega (arith, same, ih))

-- and the other way
pub count_stands : (pick : ℕ × ℕ × ℕ → ℕ) (es : Pairs) (q : ℕ) → 1 ≤ with_half pick q es → stands pick es q ≡ true
count_stands pick [] q h = absurd (omega (arith, h))
count_stands pick (x ∷ xs) q h =
    by_test (pick x == q)
    (λ u. rw u refl)
    (λ u. let same = count_no (λ y. pick y == q) x xs u in rw u (count_stands pick xs q (omega (arith, same, h))))

-- an entry that has the half, of which something holds
pub record HasHalf (F : ℕ × ℕ × ℕ → Type 0) (pick : ℕ × ℕ × ℕ → ℕ) (q : ℕ) : Type 0 where
  pub entry : ℕ × ℕ × ℕ
  pub half : pick entry ≡ q
  pub holds : F entry

pub half_of : (F : ℕ × ℕ × ℕ → Type 0) (pick : ℕ × ℕ × ℕ → ℕ) (es : Pairs) (q : ℕ) → Each F es → stands pick es q ≡ true → HasHalf F pick q
half_of F pick [] q all e = absurd (cc)
half_of F pick (x ∷ xs) q all e =
    by_test (pick x == q)
    (λ u. record { entry = x; half = eqb-true (pick x) q u; holds = all.0 })
    (λ u. let rest : stands pick xs q ≡ true = rw u at e in half_of F pick xs q all.1 rest)

-- what holds of each entry holds of each that passes a test, with the test
pub each_test : (F : ℕ × ℕ × ℕ → Type 0) (T : ℕ × ℕ × ℕ → Bool) (es : Pairs) → Each F es → Each (λ e. F e × (T e ≡ true)) (filter T es)
each_test F T [] all = tt
each_test F T (x ∷ xs) all = by_test (T x) (λ u. rw u ((all.0, u), each_test F T xs all.1)) (λ u. rw u (each_test F T xs all.1))

-- an entry that is found counts
pub count_entry : (f : ℕ × ℕ × ℕ → Bool) (es : Pairs) (id a b : ℕ) → pair_of es id ≡ Some (a, b) → f (id, a, b) ≡ true → 1 ≤ count_by f es
count_entry f [] id a b at e = absurd (cc)
count_entry f (x ∷ xs) id a b at e =
    by_test (x.0 == id)
    (λ u.
    let some : ◌≡◌ {A = Option (ℕ × ℕ)} (Some (x.1, x.2)) (Some (a, b)) = rw u at at in
    let pair : ◌≡◌ {A = ℕ × ℕ} (x.1, x.2) (a, b) = cc in
    let own : f x ≡ true = ap (λ (i : ℕ). f (i, x.1, x.2)) (eqb-true x.0 id u) ∙ ap (λ (k : ℕ × ℕ). f (id, k.0, k.1)) pair ∙ e in
    let more = count_yes f x xs own in
    omega (arith, more))
    (λ u.
    let rest : pair_of xs id ≡ Some (a, b) = rw u at at in
    let ih = count_entry f xs id a b rest e in
    let all = count_cons f x xs in
    omega (arith, ih, all))

-- two entries count twice
two_entries : (f : ℕ × ℕ × ℕ → Bool) (es : Pairs) (p q a b c d : ℕ) → (p == q) ≡ false → pair_of es p ≡ Some (a, b) → pair_of es q ≡ Some (c, d) → f (p, a, b) ≡ true → f (q, c, d) ≡ true → 2 ≤ count_by f es
two_entries f [] p q a b c d other one two e g = absurd (cc)
two_entries f (x ∷ xs) p q a b c d other one two e g =
    let first : (id u v : ℕ) → (x.0 == id) ≡ true → pair_of (x ∷ xs) id ≡ Some (u, v) → f (id, u, v) ≡ true → count_by f (x ∷ xs) ≡ 1 + count_by f xs =
    λ id u v is at own.
    let some : ◌≡◌ {A = Option (ℕ × ℕ)} (Some (x.1, x.2)) (Some (u, v)) = rw is at at in
    let pair : ◌≡◌ {A = ℕ × ℕ} (x.1, x.2) (u, v) = cc in
    count_yes f x xs (ap (λ (i : ℕ). f (i, x.1, x.2)) (eqb-true x.0 id is) ∙ ap (λ (k : ℕ × ℕ). f (id, k.0, k.1)) pair ∙ own) in
    by_test (x.0 == p)
    (λ u.
    let away : (x.0 == q) ≡ false = ap (λ (i : ℕ). i == q) (eqb-true x.0 p u) ∙ other in
    let rest : pair_of xs q ≡ Some (c, d) = rw away at two in
    let more = first p a b u one e in
    let ih = count_entry f xs q c d rest g in
    omega (arith, more, ih))
    (λ u.
    let left : pair_of xs p ≡ Some (a, b) = rw u at one in
    by_test (x.0 == q)
    (λ v. let more = first q c d v two g in let ih = count_entry f xs p a b left e in omega (arith, more, ih))
    (λ v. let rest : pair_of xs q ≡ Some (c, d) = rw v at two in let ih = two_entries f xs p q a b c d other left rest e g in let all = count_cons f x xs in omega (arith, ih, all)))

-- an entry alone is the only one of its half
pub alone_is_one : (pick other : ℕ × ℕ × ℕ → ℕ) (m : Pairs) (e f : ℕ × ℕ × ℕ) → (1 ≤ count_by (λ x. pick x == pick e && other x == 0) m → with_half pick (pick e) m ≤ 1) → pair_of m e.0 ≡ Some (e.1, e.2) → pair_of m f.0 ≡ Some (f.1, f.2) → pick f ≡ pick e → other e ≡ 0 → e.0 ≡ f.0
alone_is_one pick other m e f one is too same none =
    by_test (e.0 == f.0)
    (λ u. eqb-true e.0 f.0 u)
    (λ u.
    let own = eq-eqb (pick e) (pick e) refl in
    let absent = eq-eqb (other e) 0 none in
    let both = eq-eqb (pick f) (pick e) same in
    let alone : 1 ≤ count_by (λ x. pick x == pick e && other x == 0) m = count_entry (λ x. pick x == pick e && other x == 0) m e.0 e.1 e.2 is (rw (own, absent) refl) in
    let most = one alone in
    let two = two_entries (λ x. pick x == pick e) m e.0 f.0 e.1 e.2 f.1 f.2 u is too own both in
    absurd (omega (arith, most, two)))

-- a pair that is there has an entry
pub record PairEntry (m : Pairs) (a b : ℕ) : Type 0 where
  pub id : ℕ
  pub at : pair_of m id ≡ Some (a, b)

pub pair_entry : (m es : Pairs) (a b : ℕ) → Each (λ e. pair_of m e.0 ≡ Some (e.1, e.2)) es → has es a b ≡ true → PairEntry m a b
pair_entry m [] a b all e = absurd (cc)
pair_entry m (x ∷ xs) a b all e =
    by_test (has_pair a b x)
    (λ u.
    let parts = and_parts (x.1 == a) (x.2 == b) u in
    record { id = x.0; at = all.0 ∙ ap (λ (i : ℕ). Some (i, x.2)) (eqb-true x.1 a parts.0) ∙ ap (λ (i : ℕ). Some (a, i)) (eqb-true x.2 b parts.1) })
    (λ u. let rest : has xs a b ≡ true = rw u at e in pair_entry m xs a b all.1 rest)

-- an entry has its pair
pub entry_has : (es : Pairs) (id a b : ℕ) → pair_of es id ≡ Some (a, b) → has es a b ≡ true
entry_has [] id a b at = absurd (cc)
entry_has (x ∷ xs) id a b at =
    by_test (has_pair a b x)
    (λ u. rw u refl)
    (λ u.
    by_test (x.0 == id)
    (λ v.
    let some : ◌≡◌ {A = Option (ℕ × ℕ)} (Some (x.1, x.2)) (Some (a, b)) = rw v at at in
    let pair : ◌≡◌ {A = ℕ × ℕ} (x.1, x.2) (a, b) = cc in
    let one = eq-eqb x.1 a (ap (λ (k : ℕ × ℕ). k.0) pair) in
    let other = eq-eqb x.2 b (ap (λ (k : ℕ × ℕ). k.1) pair) in
    let both : has_pair a b x ≡ true = rw (one, other) refl in
    absurd (cc))
    (λ v. let rest : pair_of xs id ≡ Some (a, b) = rw v at at in rw u (entry_has xs id a b rest)))

-- a pair of a part is one of the whole
pub has_whole : (P : ℕ → Bool) (es : Pairs) (a b : ℕ) → has (memory_only P es) a b ≡ true → has es a b ≡ true
has_whole P [] a b e = e
has_whole P (x ∷ xs) a b e =
    by_test (has_pair a b x)
    (λ u. rw u refl)
    (λ u.
    rw u (by_test (P x.0)
    (λ v. let here : has (x ∷ memory_only P xs) a b ≡ true = rw v at e in let rest : has (memory_only P xs) a b ≡ true = rw u at here in has_whole P xs a b rest)
    (λ v. let rest : has (memory_only P xs) a b ≡ true = rw v at e in has_whole P xs a b rest)))

-- a half of an entry that passes a test stands in one
pub entry_stands : (X : ℕ → Bool) (pick : ℕ × ℕ × ℕ → ℕ) (es : Pairs) (id a b : ℕ) → pair_of es id ≡ Some (a, b) → X id ≡ true → stands pick (memory_only X es) (pick (id, a, b)) ≡ true
entry_stands X pick [] id a b at pass = absurd (cc)
entry_stands X pick (x ∷ xs) id a b at pass =
    by_test (x.0 == id)
    (λ u.
    let some : ◌≡◌ {A = Option (ℕ × ℕ)} (Some (x.1, x.2)) (Some (a, b)) = rw u at at in
    let pair : ◌≡◌ {A = ℕ × ℕ} (x.1, x.2) (a, b) = cc in
    let same : pick x ≡ pick (id, a, b) = ap (λ (i : ℕ). pick (i, x.1, x.2)) (eqb-true x.0 id u) ∙ ap (λ (k : ℕ × ℕ). pick (id, k.0, k.1)) pair in
    let here : X x.0 ≡ true = ap X (eqb-true x.0 id u) ∙ pass in
    let own = eq-eqb (pick x) (pick (id, a, b)) same in
    rw here (rw own refl))
    (λ u.
    let rest : pair_of xs id ≡ Some (a, b) = rw u at at in
    let ih = entry_stands X pick xs id a b rest pass in
    by_test (X x.0)
    (λ v. rw v (by_test (pick x == pick (id, a, b)) (λ w. rw w refl) (λ w. rw w ih)))
    (λ v. rw v ih))

-- so does a half of an entry that passes two tests
pub entry_left : (T U : ℕ × ℕ × ℕ → Bool) (pick : ℕ × ℕ × ℕ → ℕ) (es : Pairs) (id a b : ℕ) → pair_of es id ≡ Some (a, b) → T (id, a, b) ≡ true → U (id, a, b) ≡ true → stands pick (filter U (filter T es)) (pick (id, a, b)) ≡ true
entry_left T U pick [] id a b at one other = absurd (cc)
entry_left T U pick (x ∷ xs) id a b at one other =
    by_test (x.0 == id)
    (λ u.
    let some : ◌≡◌ {A = Option (ℕ × ℕ)} (Some (x.1, x.2)) (Some (a, b)) = rw u at at in
    let pair : ◌≡◌ {A = ℕ × ℕ} (x.1, x.2) (a, b) = cc in
    let same : ◌≡◌ {A = ℕ × ℕ × ℕ} x (id, a, b) = ap (λ (i : ℕ). (i, x.1, x.2)) (eqb-true x.0 id u) ∙ ap (λ (k : ℕ × ℕ). (id, k.0, k.1)) pair in
    let first : T x ≡ true = ap T same ∙ one in
    let second : U x ≡ true = ap U same ∙ other in
    let own = eq-eqb (pick x) (pick (id, a, b)) (ap pick same) in
    rw first (rw second (rw own refl)))
    (λ u.
    let rest : pair_of xs id ≡ Some (a, b) = rw u at at in
    let ih = entry_left T U pick xs id a b rest one other in
    by_test (T x)
    (λ v. rw v (by_test (U x) (λ z. rw z (by_test (pick x == pick (id, a, b)) (λ w. rw w refl) (λ w. rw w ih))) (λ z. rw z ih)))
    (λ v. rw v ih))
