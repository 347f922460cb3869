-- The places of a row that a list leaves out: both lists together divide the row.
use Rattle.std.proofs.Common.{◌≡◌, ℕ, zero, suc, ◌<◌, ◌==◌, List, [], ◌∷◌, ◌++◌, Bool, true, false, ◌||◌, if◌then◌else◌, refl, sym, ◌∙◌, ap, subst, arith}
use Rattle.std.proofs.lemmas.Bool.{false≢true, eqb-true, or_from, or_left, or_right}
use Rattle.std.proofs.lemmas.Bool.Decides.{nat_tests}
use Rattle.row_parts.specs.RowCells.{by_test}
use Rattle.row_parts.specs.Places.{has_place, AreOnce}
use Rattle.row_parts.specs.Partition.{Divides, divides}

-- the places below a width that aren't listed, ascending
abbrev pub others : List ℕ → ℕ → List ℕ
others places zero = []
others places (suc width) = others places width ++ (if has_place places width then [] else width ∷ [])

-- two lists have a place where one of them has it
has_either : (xs ys : List ℕ) (q : ℕ) → has_place (xs ++ ys) q ≡ (has_place xs q || has_place ys q)
has_either [] ys q = refl
has_either (x ∷ xs) ys q = by_test (x == q) (λ e. rw e refl) (λ e. rw e (has_either xs ys q))

-- no place stands twice in two lists that have none in common
once_both : (xs ys : List ℕ) → AreOnce xs → AreOnce ys → ((q : ℕ) → has_place xs q ≡ true → has_place ys q ≡ false) → AreOnce (xs ++ ys)
once_both [] ys once other apart = other
once_both (x ∷ xs) ys once other apart =
    let own : (x == x) ≡ true = grind (arith, nat_tests) in (
      has_either xs ys x ∙ or_from (has_place xs x) (has_place ys x) once.0 (apart x (rw own refl)),
      once_both xs ys once.1 other (λ q h. apart q (by_test (x == q) (λ e. rw e refl) (λ e. rw e h))),
    )

one_of : (u v : Bool) → (u || v) ≡ true → u ≡ false → v ≡ true
one_of u v h e = grind arith

module _ (places : List ℕ) where
  abbrev last : ℕ → List ℕ
  last width = if has_place places width then [] else width ∷ []

  -- the last of them is that place, where it isn't listed
  last_is : (width q : ℕ) → has_place (last width) q ≡ true → (q ≡ width) × (has_place places width ≡ false)
  last_is width q has =
      by_test (has_place places width)
      (λ listed. let none : has_place [] q ≡ true = rw listed at has in absurd (false≢true none))
      (λ unlisted. (
        by_test (width == q)
            (λ e. sym (eqb-true width q e))
            (λ e. let bad : false ≡ true = rw (unlisted, e) at has in absurd (false≢true bad)),
        unlisted,
      ))

  last_has : (width : ℕ) → has_place places width ≡ false → has_place (last width) width ≡ true
  last_has width unlisted = let own : (width == width) ≡ true = grind (arith, nat_tests) in rw (unlisted, own) refl

  last_once : (width : ℕ) → AreOnce (last width)
  last_once width = by_test (has_place places width) (λ e. rw e tt) (λ e. rw e (refl, tt))

  -- they are below the width, and aren't listed
  pub others_are : (width q : ℕ) → has_place (others places width) q ≡ true → (q < width) × (has_place places q ≡ false)
  others_are zero q has = absurd (false≢true has)
  others_are (suc width) q has =
      let either : (has_place (others places width) q || has_place (last width) q) ≡ true = sym (has_either (others places width) (last width) q) ∙ has in
      by_test (has_place (others places width) q)
      (λ before. let are = others_are width q before in let below = are.0 in (omega (arith, below), are.1))
      (λ after.
      let is = last_is width q (one_of (has_place (others places width) q) (has_place (last width) q) either after) in
      let at = is.0 in
      (omega (arith, at), ap (has_place places) is.0 ∙ is.1))

  -- and all of those
  pub others_have : (width q : ℕ) → q < width → has_place places q ≡ false → has_place (others places width) q ≡ true
  others_have zero q below unlisted = absurd (omega (arith, below))
  others_have (suc width) q below unlisted =
      has_either (others places width) (last width) q
      ∙ by_test (q == width)
      (λ e.
      let at = eqb-true q width e in
      let has : has_place (last width) q ≡ true = subst (λ (i : ℕ). has_place (last width) i ≡ true) (sym at) (last_has width (ap (has_place places) (sym at) ∙ unlisted)) in
      or_right (has_place (others places width) q) (has_place (last width) q) has)
      (λ e.
      let less : q < width = grind (arith, nat_tests, e, below) in
      or_left (has_place (others places width) q) (has_place (last width) q) (others_have width q less unlisted))

  -- each once
  pub others_once : (width : ℕ) → AreOnce (others places width)
  others_once zero = tt
  others_once (suc width) =
      once_both (others places width) (last width) (others_once width) (last_once width)
      (λ q has.
      by_test (has_place (last width) q)
      (λ yes. let at = (last_is width q yes).0 in let below = (others_are width q has).0 in absurd (omega (arith, at, below)))
      (λ no. no))

  -- places of a row that are listed once, and the others, divide it
  pub others_divide : (width : ℕ) → AreOnce places → ((place : ℕ) → has_place places place ≡ true → place < width) → Divides places (others places width) width
  others_divide width once within =
      divides places (others places width) width
      (once_both places (others places width) once (others_once width)
      (λ q has.
      by_test (has_place (others places width) q)
      (λ yes. absurd (false≢true (sym (others_are width q yes).1 ∙ has)))
      (λ no. no)))
      (λ q has.
      let either : (has_place places q || has_place (others places width) q) ≡ true = sym (has_either places (others places width) q) ∙ has in
      by_test (has_place places q) (within q)
      (λ out. (others_are width q (one_of (has_place places q) (has_place (others places width) q) either out)).0))
      (λ q below.
      has_either places (others places width) q
      ∙ by_test (has_place places q)
      (or_left (has_place places q) (has_place (others places width) q))
      (λ out. or_right (has_place places q) (has_place (others places width) q) (others_have width q below out)))
