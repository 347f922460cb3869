-- Tests and choices by them, where the toolchain has no lemma.
use Rattle.std.proofs.Common.{◌≡◌, ℕ, ◌<◌, ◌==◌, Bool, true, false, if◌then◌else◌, refl, arith}
use Rattle.std.proofs.lemmas.Bool.Decides.{nat_tests}

-- a number isn't a greater one
pub apart_below : (a b : ℕ) → a < b → (a == b) ≡ false
apart_below a b h = grind (arith, nat_tests)

-- nor a smaller one
pub apart_above : (a b : ℕ) → b < a → (a == b) ≡ false
apart_above a b h = grind (arith, nat_tests)

-- two tests of which at most one holds may be made in either order
pub swap_tests : {A : Type 0} (a b : Bool) (x y z : A) → (a ≡ true → b ≡ false) → (if a then x else (if b then y else z)) ≡ (if b then y else (if a then x else z))
swap_tests true true x y z h = let e = h refl in absurd (cc)
swap_tests true false x y z h = refl
swap_tests false true x y z h = refl
swap_tests false false x y z h = refl

-- a test that failed needn't be made again
pub twice : {A : Type 0} (a : Bool) (x y z : A) → (if a then x else z) ≡ (if a then x else (if a then y else z))
twice true x y z = refl
twice false x y z = refl
