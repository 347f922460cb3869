-- When two lists divide the places of a row: no place stands twice, each is below the width, and none is left out.
use Rattle.std.proofs.Common.{◌≡◌, ℕ, zero, suc, ◌+◌, ◌<◌, ◌==◌, List, [], ◌∷◌, ◌++◌, length, true, false, ◌||◌, if◌then◌else◌, refl, ap, sym, ◌∙◌, subst, arith}
use Rattle.std.proofs.lemmas.Bool.Decides.{nat_tests}
use Rattle.std.proofs.lemmas.List.{length-append}
use Rattle.std.proofs.lemmas.Bool.{eqb-true, or_parts, or_left, or_right}
use Rattle.row_parts.specs.RowCells.{by_test}
use Rattle.row_parts.specs.Places.{has_place, AreOnce, ArePartition}

-- the places without one
abbrev without : ℕ → List ℕ → List ℕ
without n [] = []
without n (p ∷ ps) = if p == n then ps else p ∷ without n ps

-- a list that has a place has one more than without it
long_without : (n : ℕ) (ps : List ℕ) → has_place ps n ≡ true → length ps ≡ suc (length (without n ps))
long_without n [] h = absurd (cc)
long_without n (p ∷ ps) h =
    by_test (p == n)
    (λ e. rw e refl)
    (λ e. let rest : has_place ps n ≡ true = rw e at h in rw e (ap suc (long_without n ps rest)))

-- the other places are still there
has_without : (n q : ℕ) (ps : List ℕ) → (n == q) ≡ false → has_place (without n ps) q ≡ has_place ps q
has_without n q [] apart = refl
has_without n q (p ∷ ps) apart =
    by_test (p == n)
    (λ e.
    let same = eqb-true p n e in
    let other : (p == q) ≡ false = ap (λ (i : ℕ). i == q) same ∙ apart in
    rw (e, other) refl)
    (λ e. rw e (by_test (p == q) (λ f. rw f refl) (λ f. rw f (has_without n q ps apart))))

-- and it is gone, where it stood once
gone : (n : ℕ) (ps : List ℕ) → AreOnce ps → has_place (without n ps) n ≡ false
gone n [] once = refl
gone n (p ∷ ps) once =
    by_test (p == n)
    (λ e. let same = eqb-true p n e in rw e (subst (λ (i : ℕ). has_place ps i ≡ false) same once.0))
    (λ e. rw e (rw e (gone n ps once.1)))

-- the rest stands once, too
once_without : (n : ℕ) (ps : List ℕ) → AreOnce ps → AreOnce (without n ps)
once_without n [] once = tt
once_without n (p ∷ ps) once =
    by_test (p == n)
    (λ e. rw e once.1)
    (λ e.
    let apart : (n == p) ≡ false = by_test (n == p)
    (λ f. let same = eqb-true n p f in let bad : (p == n) ≡ true = grind (arith, nat_tests, same) in absurd (cc))
    (λ f. f) in
    rw e (has_without n p ps apart ∙ once.0, once_without n ps once.1))

-- places below a width, each once and none left out, are so many
pub count : (w : ℕ) (ps : List ℕ) → AreOnce ps → ((place : ℕ) → has_place ps place ≡ true → place < w) → ((place : ℕ) → place < w → has_place ps place ≡ true) → length ps ≡ w
count zero [] once within all = refl
count zero (p ∷ ps) once within all =
    let own : (p == p) ≡ true = grind (arith, nat_tests) in
    let below = within p (rw own refl) in
    absurd (omega (arith, below))
count (suc w) ps once within all =
    let there = all w (omega arith) in
    let rest = count w (without w ps) (once_without w ps once)
    (λ place has.
    by_test (w == place)
    (λ e.
    let same = eqb-true w place e in
    let here : has_place (without w ps) w ≡ true = subst (λ (i : ℕ). has_place (without w ps) i ≡ true) (sym same) has in
    let none = gone w ps once in
    absurd (cc))
    (λ e.
    let before = within place (sym (has_without w place ps e) ∙ has) in
    let apart : w ≡ place → ⊥ = λ s. let yes : (w == place) ≡ true = grind (arith, nat_tests, s) in cc in
    omega (arith, before, apart)))
    (λ place below.
    let apart : (w == place) ≡ false = grind (arith, nat_tests, below) in
    has_without w place ps apart ∙ all place (omega (arith, below))) in
    long_without w ps there ∙ ap suc rest

-- a place of both lists together stands in one of them
has_append : (xs ys : List ℕ) (q : ℕ) → has_place (xs ++ ys) q ≡ (has_place xs q || has_place ys q)
has_append [] ys q = refl
-- a place of both lists together stands in one of them
has_append (x ∷ xs) ys q = by_test (x == q) (λ e. rw e refl) (λ e. rw e (has_append xs ys q))

-- where places of both lists stand once, so do those of the first
left_once : (xs ys : List ℕ) → AreOnce (xs ++ ys) → AreOnce xs
left_once [] ys once = tt
-- where places of both lists stand once, so do those of the first
left_once (x ∷ xs) ys once = ((or_parts (has_place xs x) (has_place ys x) (sym (has_append xs ys x) ∙ once.0)).0, left_once xs ys once.1)

-- and those of the second
right_once : (xs ys : List ℕ) → AreOnce (xs ++ ys) → AreOnce ys
right_once [] ys once = once
-- and those of the second
right_once (x ∷ xs) ys once = right_once xs ys once.1

-- and none stands in both
apart_of : (xs ys : List ℕ) → AreOnce (xs ++ ys) → (q : ℕ) → has_place xs q ≡ true → has_place ys q ≡ false
apart_of [] ys once q h = absurd (cc)
-- and none stands in both
apart_of (x ∷ xs) ys once q h =
    by_test (x == q)
    (λ e. subst (λ (i : ℕ). has_place ys i ≡ false) (eqb-true x q e) ((or_parts (has_place xs x) (has_place ys x) (sym (has_append xs ys x) ∙ once.0)).1))
    (λ e. let rest : has_place xs q ≡ true = rw e at h in apart_of xs ys once.1 q rest)

-- two lists divide the places below a width
pub record Divides (first second : List ℕ) (w : ℕ) : Type 0 where
  pub wide : w ≡ length first + length second
  pub divided : ArePartition first second

-- two lists that name each of w places exactly once divide a row of w values
pub divides : (first second : List ℕ) (w : ℕ) → AreOnce (first ++ second) → ((place : ℕ) → has_place (first ++ second) place ≡ true → place < w) → ((place : ℕ) → place < w → has_place (first ++ second) place ≡ true) → Divides first second w
divides first second w once within all =
    let wide : w ≡ length first + length second = sym (count w (first ++ second) once within all) ∙ length-append first second in
    record {
      wide = wide;
      divided = record {
        first_once = left_once first second once;
        second_once = right_once first second once;
        apart = apart_of first second once;
        first_within = λ q h. let below = within q (has_append first second q ∙ or_left (has_place first q) (has_place second q) h) in omega (arith, below, wide);
        second_within = λ q h. let below = within q (has_append first second q ∙ or_right (has_place first q) (has_place second q) h) in omega (arith, below, wide);
        all = λ q h. sym (has_append first second q) ∙ all q (omega (arith, h, wide));
      };
    }
