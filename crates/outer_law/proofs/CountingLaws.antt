-- Counting entries.
use Rattle.std.proofs.Common.{◌≡◌, ℕ, ◌+◌, ◌≤◌, ◌==◌, [], ◌∷◌, ◌++◌, filter, count_by, Bool, true, false, refl, ap, sym, ◌∙◌, arith}
use Rattle.std.proofs.lemmas.Bool.{and_parts, eqb-true}
use Rattle.id_memory.specs.Pairs.{Pairs, has_pair}
use Rattle.row_parts.specs.RowCells.{by_test}
use Rattle.pair_rows.specs.Shown.{has}
use Rattle.pair_rows.specs.inner.Numbers.{count_cons}
use Rattle.pair_rows.specs.inner.PairLemmas.{count_yes, count_no}

-- each entry passes
abbrev pub AllPass : (ℕ → ℕ → Bool) → Pairs → Type 0
AllPass is [] = Unit {0}
AllPass is (e ∷ es) = (is e.1 e.2 ≡ true) × AllPass is es

-- a test that implies another counts no more
pub count_fewer : (is : ℕ → ℕ → Bool) (f g : ℕ × ℕ × ℕ → Bool) (es : Pairs) → AllPass is es → ((e : ℕ × ℕ × ℕ) → is e.1 e.2 ≡ true → f e ≡ true → g e ≡ true) → count_by f es ≤ count_by g es
count_fewer is f g [] all h = omega arith
count_fewer is f g (e ∷ es) all h =
    let rest = count_fewer is f g es all.1 h in
    let one = count_cons f e es in
    let other = count_cons g e es in
    by_test (f e)
    (λ q.
    let p = h e all.0 q in
    let here = count_yes f e es q in
    let there = count_yes g e es p in
    omega (arith, rest, here, there))
    (λ q. let here = count_no f e es q in omega (arith, rest, here, other))

-- any entries pass what is always true
pub all_pass : (es : Pairs) → AllPass (λ a b. true) es
all_pass [] = tt
all_pass (e ∷ es) = (refl, all_pass es)

-- the same of any entries
pub count_less : (f g : ℕ × ℕ × ℕ → Bool) (es : Pairs) → ((e : ℕ × ℕ × ℕ) → f e ≡ true → g e ≡ true) → count_by f es ≤ count_by g es
count_less f g es h = count_fewer (λ a b. true) f g es (all_pass es) (λ e t q. h e q)

-- what no entry passes counts none
pub count_none : (is : ℕ → ℕ → Bool) (f : ℕ × ℕ × ℕ → Bool) (es : Pairs) → AllPass is es → ((e : ℕ × ℕ × ℕ) → is e.1 e.2 ≡ true → f e ≡ false) → count_by f es ≡ 0
count_none is f [] all h = refl
count_none is f (e ∷ es) all h = count_no f e es (h e all.0) ∙ count_none is f es all.1 h

-- filtered entries pass
pub filter_pass : (is : ℕ → ℕ → Bool) (es : Pairs) → AllPass is (filter (λ e. is e.1 e.2) es)
filter_pass is [] = tt
filter_pass is (e ∷ es) = by_test (is e.1 e.2) (λ q. rw q (q, filter_pass is es)) (λ q. rw q (filter_pass is es))

-- entries of two lists pass
pub append_pass : (is : ℕ → ℕ → Bool) (es fs : Pairs) → AllPass is es → AllPass is fs → AllPass is (es ++ fs)
append_pass is [] fs one other = other
append_pass is (e ∷ es) fs one other = (one.0, append_pass is es fs one.1 other)

-- an entry of a pair that passes is kept
pub count_kept : (is : ℕ → ℕ → Bool) (a b : ℕ) (es : Pairs) → is a b ≡ true → count_by (has_pair a b) (filter (λ e. is e.1 e.2) es) ≡ count_by (has_pair a b) es
count_kept is a b [] h = refl
count_kept is a b (e ∷ es) h =
    let rest = count_kept is a b es h in
    by_test (has_pair a b e)
    (λ q.
    let both = and_parts (e.1 == a) (e.2 == b) q in
    let passes : is e.1 e.2 ≡ true = ap (λ (i : ℕ). is i e.2) (eqb-true e.1 a both.0) ∙ ap (λ (i : ℕ). is a i) (eqb-true e.2 b both.1) ∙ h in
    rw passes (count_yes (has_pair a b) e (filter (λ e. is e.1 e.2) es) q ∙ ap (λ (k : ℕ). 1 + k) rest ∙ sym (count_yes (has_pair a b) e es q)))
    (λ q.
    by_test (is e.1 e.2)
    (λ p. rw p (count_no (has_pair a b) e (filter (λ e. is e.1 e.2) es) q ∙ rest ∙ sym (count_no (has_pair a b) e es q)))
    (λ p. rw p (rest ∙ sym (count_no (has_pair a b) e es q))))

-- a pair that the memory has is counted
pub has_some : (es : Pairs) (a b : ℕ) → has es a b ≡ true → 1 ≤ count_by (has_pair a b) es
has_some [] a b h = absurd (cc)
has_some (e ∷ es) a b h =
    by_test (has_pair a b e)
    (λ q. let more = count_yes (has_pair a b) e es q in omega (arith, more))
    (λ q. let later : has es a b ≡ true = rw q at h in let rest = has_some es a b later in let same = count_no (has_pair a b) e es q in omega (arith, rest, same))

-- two tests that no entry passes both, and that imply a third
pub count_two : (f g h : ℕ × ℕ × ℕ → Bool) (es : Pairs) → ((e : ℕ × ℕ × ℕ) → f e ≡ true → h e ≡ true) → ((e : ℕ × ℕ × ℕ) → g e ≡ true → h e ≡ true) → ((e : ℕ × ℕ × ℕ) → f e ≡ true → g e ≡ false) → count_by f es + count_by g es ≤ count_by h es
count_two f g h [] one other apart = omega arith
count_two f g h (e ∷ es) one other apart =
    let rest = count_two f g h es one other apart in
    let all = count_cons h e es in
    by_test (f e)
    (λ q.
    let a = count_yes f e es q in
    let b = count_no g e es (apart e q) in
    let c = count_yes h e es (one e q) in
    omega (arith, rest, a, b, c))
    (λ q.
    let a = count_no f e es q in
    by_test (g e)
    (λ p.
    let b = count_yes g e es p in
    let c = count_yes h e es (other e p) in
    omega (arith, rest, a, b, c))
    (λ p.
    let b = count_no g e es p in
    omega (arith, rest, a, b, all)))
