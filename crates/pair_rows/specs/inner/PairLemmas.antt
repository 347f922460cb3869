-- Entries of memories that were filtered or numbered, and how often a pair stands there.
use Rattle.std.proofs.Common.{◌≡◌, ℕ, suc, ◌+◌, ◌<◌, ◌≤◌, ◌==◌, ◌⊎◌, List, [], ◌∷◌, ◌++◌, length, filter, count_by, if◌then◌else◌, Bool, true, false, cond, ◌&&◌, IsSome, refl, ap, ◌∙◌, subst, arith}
use Rattle.std.proofs.lemmas.Bool.{and_parts, ne_eqb, eqb-true, eq-eqb}
use Rattle.std.proofs.lemmas.List.Sums.{sum_by-append}
use mathlib.Core.Logic.{inl, inr}
use Rattle.row_store.specs.Rows.{Rows, RiseFrom}
use Rattle.id_memory.specs.Pairs.{Pairs, RiseFrom as PairsRise, pair_of, has_pair}
use Rattle.op_law.specs.Sound.{IsBelow, PairsSound}
use Rattle.row_parts.specs.RowCells.{by_test}
use Rattle.pair_rows.specs.inner.Numbers.{count_cons}
use Rattle.pair_rows.specs.Shown.{has, pairs_with, all_pairs, numbered}

-- one that counts
pub count_yes : (p : ℕ × ℕ × ℕ → Bool) (e : ℕ × ℕ × ℕ) (es : Pairs) → p e ≡ true → count_by p (e ∷ es) ≡ 1 + count_by p es
count_yes p e es is = count_cons p e es ∙ ap (λ b. cond b 1 0 + count_by p es) is

-- one that doesn't
pub count_no : (p : ℕ × ℕ × ℕ → Bool) (e : ℕ × ℕ × ℕ) (es : Pairs) → p e ≡ false → count_by p (e ∷ es) ≡ count_by p es
count_no p e es is = count_cons p e es ∙ ap (λ b. cond b 1 0 + count_by p es) is ∙ omega arith

-- rising from below
pub pairs_rise_more : (n k : ℕ) (es : Pairs) → n ≤ k → PairsRise k es → PairsRise n es
pairs_rise_more n k [] h rise = tt
pairs_rise_more n k (e ∷ es) h rise = (let low = rise.0 in omega (arith, h, low), rise.1)

-- how often a pair stands in a list of pairs
abbrev pub often : ℕ → ℕ → List (ℕ × ℕ) → ℕ
often a b [] = 0
often a b (x ∷ xs) = if x.0 == a && x.1 == b then 1 + often a b xs else often a b xs

-- numbers change no count
pub often_numbered : (a b n : ℕ) (xs : List (ℕ × ℕ)) → count_by (has_pair a b) (numbered n xs) ≡ often a b xs
often_numbered a b n [] = refl
often_numbered a b n (x ∷ xs) =
    let ih = often_numbered a b (n + 1) xs in
    by_test (x.0 == a && x.1 == b)
    (λ e. rw e (count_yes (has_pair a b) (n, x.0, x.1) (numbered (n + 1) xs) e ∙ ap (λ (k : ℕ). 1 + k) ih))
    (λ e. rw e (count_no (has_pair a b) (n, x.0, x.1) (numbered (n + 1) xs) e ∙ ih))

-- a test leaves no more
pub often_filter : (test : ℕ × ℕ → Bool) (a b : ℕ) (xs : List (ℕ × ℕ)) → often a b (filter test xs) ≤ often a b xs
often_filter test a b [] = omega arith
often_filter test a b (x ∷ xs) =
    let ih = often_filter test a b xs in
    by_test (test x)
    (λ e. rw e (by_test (x.0 == a && x.1 == b) (λ q. rw q (omega (arith, ih))) (λ q. rw q ih)))
    (λ e. rw e (by_test (x.0 == a && x.1 == b) (λ q. rw q (omega (arith, ih))) (λ q. rw q ih)))

-- counting in two lists
pub often_append : (a b : ℕ) (xs ys : List (ℕ × ℕ)) → often a b (xs ++ ys) ≡ often a b xs + often a b ys
often_append a b [] ys = omega arith
often_append a b (x ∷ xs) ys =
    let ih = often_append a b xs ys in
    by_test (x.0 == a && x.1 == b) (λ q. rw q (omega (arith, ih))) (λ q. rw q ih)

-- a pair that the list hasn't
pub never : (test : ℕ × ℕ → Bool) (a b : ℕ) (xs : List (ℕ × ℕ)) → ((x : ℕ × ℕ) → test x ≡ true → (x.0 == a && x.1 == b) ≡ false) → often a b (filter test xs) ≡ 0
never test a b [] h = refl
never test a b (x ∷ xs) h =
    by_test (test x)
    (λ e. let no = h x e in rw (e, no) (never test a b xs h))
    (λ e. rw e (never test a b xs h))

-- no pair with another first
never_with : (a b k : ℕ) (t : Rows) → (k == a) ≡ false → often a b (pairs_with k t) ≡ 0
never_with a b k [] other = refl
never_with a b k (r ∷ rs) other = rw other (never_with a b k rs other)

-- no pair with a lower second
under_with : (a b k n : ℕ) (t : Rows) → b < n → RiseFrom n t → often a b (pairs_with k t) ≡ 0
under_with a b k n [] under rise = refl
under_with a b k n (r ∷ rs) under rise =
    let low = rise.0 in
    let other : (r.0 == b) ≡ false = ne_eqb r.0 b (λ e. absurd (omega (arith, e, low, under))) in
    by_test (k == a)
    (λ e. rw (e, other) (under_with a b k (r.0 + 1) rs (omega (arith, low, under)) rise.1))
    (λ e. rw e (under_with a b k (r.0 + 1) rs (omega (arith, low, under)) rise.1))

-- each pair with a first once
once_with : (a b k n : ℕ) (t : Rows) → RiseFrom n t → often a b (pairs_with k t) ≤ 1
once_with a b k n [] rise = omega arith
once_with a b k n (r ∷ rs) rise =
    by_test (k == a && r.0 == b)
    (λ e.
    let parts = and_parts (k == a) (r.0 == b) e in
    let same = eqb-true r.0 b parts.1 in
    let none = under_with a b k (r.0 + 1) rs (omega (arith, same)) rise.1 in
    rw e (omega (arith, none)))
    (λ e. rw e (once_with a b k (r.0 + 1) rs rise.1))

-- no pair with a lower first
under_all : (a b n : ℕ) (s t : Rows) → a < n → RiseFrom n s → often a b (all_pairs s t) ≡ 0
under_all a b n [] t under rise = refl
under_all a b n (r ∷ rs) t under rise =
    let low = rise.0 in
    let other : (r.0 == a) ≡ false = ne_eqb r.0 a (λ e. absurd (omega (arith, e, low, under))) in
    let here = never_with a b r.0 t other in
    let rest = under_all a b (r.0 + 1) rs t (omega (arith, low, under)) rise.1 in
    omega (arith, often_append a b (pairs_with r.0 t) (all_pairs rs t), here, rest)

-- among all pairs of rows each stands once
pub once_all : (a b n k : ℕ) (s t : Rows) → RiseFrom n s → RiseFrom k t → often a b (all_pairs s t) ≤ 1
once_all a b n k [] t rise other_rise = omega arith
once_all a b n k (r ∷ rs) t rise other_rise =
    let all = often_append a b (pairs_with r.0 t) (all_pairs rs t) in
    by_test (r.0 == a)
    (λ e.
    let same = eqb-true r.0 a e in
    let here = once_with a b r.0 k t other_rise in
    let rest = under_all a b (r.0 + 1) rs t (omega (arith, same)) rise.1 in
    omega (arith, all, here, rest))
    (λ e.
    let here = never_with a b r.0 t e in
    let rest = once_all a b (r.0 + 1) k rs t rise.1 other_rise in
    omega (arith, all, here, rest))

-- counting in filtered entries and in two lists
pub count_filter : (p test : ℕ × ℕ × ℕ → Bool) (es : Pairs) → count_by p (filter test es) ≤ count_by p es
count_filter p test [] = omega arith
count_filter p test (e ∷ es) =
    let ih = count_filter p test es in
    let all = count_cons p e es in
    by_test (test e)
    (λ q. let some = count_cons p e (filter test es) in rw q (omega (arith, some, all, ih)))
    (λ q. rw q (omega (arith, all, ih)))

-- counting entries in two lists
pub count_append : (p : ℕ × ℕ × ℕ → Bool) (es fs : Pairs) → count_by p (es ++ fs) ≡ count_by p es + count_by p fs
count_append p es fs = sum_by-append (λ e. cond (p e) 1 0) es fs

-- a memory has a pair, or no entry of it has
pub has_not : (m : Pairs) (a b : ℕ) → has m a b ≡ false → count_by (has_pair a b) m ≡ 0
has_not [] a b h = refl
has_not (e ∷ es) a b h =
    by_test (has_pair a b e)
    (λ q. let yes : true ≡ false = rw q at h in absurd (cc))
    (λ q. let rest : has es a b ≡ false = rw q at h in count_no (has_pair a b) e es q ∙ has_not es a b rest)

-- order
pub filter_rises : (test : ℕ × ℕ × ℕ → Bool) (n : ℕ) (es : Pairs) → PairsRise n es → PairsRise n (filter test es)
filter_rises test n [] rise = tt
filter_rises test n (e ∷ es) rise =
    by_test (test e)
    (λ q. rw q (rise.0, filter_rises test (e.0 + 1) es rise.1))
    (λ q. rw q (filter_rises test n es (pairs_rise_more n (e.0 + 1) es (let low = rise.0 in omega (arith, low)) rise.1)))

-- numbers rise
pub numbered_rises : (n : ℕ) (xs : List (ℕ × ℕ)) → PairsRise n (numbered n xs)
numbered_rises n [] = tt
numbered_rises n (x ∷ xs) = (omega arith, numbered_rises (n + 1) xs)

-- entries above others rise behind them
pub append_rises : (k n : ℕ) (es fs : Pairs) → k ≤ n → PairsRise k es → PairsSound n es → PairsRise n fs → PairsRise k (es ++ fs)
append_rises k n [] fs h rise sound more = pairs_rise_more k n fs h more
append_rises k n (e ∷ es) fs h rise sound more = let under = sound.0.0.1 in (rise.0, append_rises (e.0 + 1) n es fs (omega (arith, under)) rise.1 sound.1 more)

-- bounds
pub filter_pairs_sound : (test : ℕ × ℕ × ℕ → Bool) (n : ℕ) (es : Pairs) → PairsSound n es → PairsSound n (filter test es)
filter_pairs_sound test n [] sound = tt
filter_pairs_sound test n (e ∷ es) sound = by_test (test e) (λ q. rw q (sound.0, filter_pairs_sound test n es sound.1)) (λ q. rw q (filter_pairs_sound test n es sound.1))

-- sound entries behind sound ones
pub append_pairs_sound : (n : ℕ) (es fs : Pairs) → PairsSound n es → PairsSound n fs → PairsSound n (es ++ fs)
append_pairs_sound n [] fs sound more = more
append_pairs_sound n (e ∷ es) fs sound more = (sound.0, append_pairs_sound n es fs sound.1 more)

-- each pair of a list is below
abbrev pub BothBelow : ℕ → List (ℕ × ℕ) → Type 0
BothBelow n [] = Unit {0}
BothBelow n (x ∷ xs) = (IsBelow n x.0 × IsBelow n x.1) × BothBelow n xs

-- numbered pairs are sound
pub numbered_sound : (n k : ℕ) (xs : List (ℕ × ℕ)) → n ≤ k → BothBelow n xs → PairsSound (k + length xs) (numbered k xs)
numbered_sound n k [] h below = tt
numbered_sound n k (x ∷ xs) h below =
    let rest = numbered_sound n (k + 1) xs (omega (arith, h)) below.1 in
    let low = below.0.0.0 in
    let under = below.0.0.1 in
    let other_under = below.0.1.1 in
    let same : (k + 1) + length xs ≡ k + suc (length xs) = omega arith in
    (((omega (arith, low, under, h), omega arith), omega (arith, under, h), omega (arith, other_under, h)), subst (λ (i : ℕ). PairsSound i (numbered (k + 1) xs)) same rest)

-- what identifiers they have
pub append_pair : (es fs : Pairs) (p : ℕ) → IsSome (pair_of (es ++ fs) p) → IsSome (pair_of es p) ⊎ IsSome (pair_of fs p)
append_pair [] fs p some = inr some
append_pair (e ∷ es) fs p some =
    by_test (e.0 == p)
    (λ q. inl (rw q refl))
    (λ q. let later : IsSome (pair_of (es ++ fs) p) = rw q at some in rw q (append_pair es fs p later))

-- an identifier of entries that passed
pub filter_pair : (test : ℕ × ℕ × ℕ → Bool) (es : Pairs) (p : ℕ) → IsSome (pair_of (filter test es) p) → IsSome (pair_of es p)
filter_pair test [] p some = some
filter_pair test (e ∷ es) p some =
    by_test (e.0 == p)
    (λ q. rw q refl)
    (λ q. rw q (by_test (test e)
    (λ u. let here : IsSome (pair_of (e ∷ filter test es) p) = rw u at some in let later : IsSome (pair_of (filter test es) p) = rw q at here in filter_pair test es p later)
    (λ u. let later : IsSome (pair_of (filter test es) p) = rw u at some in filter_pair test es p later)))

-- an identifier that was drawn
pub numbered_pair : (n : ℕ) (xs : List (ℕ × ℕ)) (p : ℕ) → IsSome (pair_of (numbered n xs) p) → n ≤ p
numbered_pair n [] p some = absurd (cc)
numbered_pair n (x ∷ xs) p some =
    by_test (n == p)
    (λ q. let same = eqb-true n p q in omega (arith, same))
    (λ q. let later : IsSome (pair_of (numbered (n + 1) xs) p) = rw q at some in let more = numbered_pair (n + 1) xs p later in omega (arith, more))

-- each of the entries is in the memory
abbrev pub AllIn : Pairs → Pairs → Type 0
AllIn m [] = Unit {0}
AllIn m (e ∷ es) = (has m e.1 e.2 ≡ true) × AllIn m es

-- with one entry more
has_more : (e : ℕ × ℕ × ℕ) (m : Pairs) (a b : ℕ) → has m a b ≡ true → has (e ∷ m) a b ≡ true
has_more e m a b h = by_test (has_pair a b e) (λ q. rw q refl) (λ q. rw q h)

-- the same of all
all_in_more : (e : ℕ × ℕ × ℕ) (m es : Pairs) → AllIn m es → AllIn (e ∷ m) es
all_in_more e m [] h = tt
all_in_more e m (f ∷ fs) h = (has_more e m f.1 f.2 h.0, all_in_more e m fs h.1)

-- all entries are in their memory
pub all_in : (m : Pairs) → AllIn m m
all_in [] = tt
all_in (e ∷ es) =
    let one = eq-eqb e.1 e.1 refl in
    let other = eq-eqb e.2 e.2 refl in
    (rw (one, other) refl, all_in_more e es es (all_in es))
