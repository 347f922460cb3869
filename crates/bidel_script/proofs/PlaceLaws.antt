-- The place behind some bytes and then others, and how far it lies.
use Rattle.std.proofs.Common.{◌≡◌, ◌+◌, ◌≤◌, ◌++◌, ℕ, List, [], ◌∷◌, Bool, true, false, refl, length, cond, arith}
use Rattle.std.specs.Prelude.{◌==◌}
use Rattle.bidel_script.specs.Places.{Place, behind, behind_all}

-- behind some bytes and then others
pub behind_all-append : (place : Place) (xs ys : List ℕ) → behind_all place (xs ++ ys) ≡ behind_all (behind_all place xs) ys
unfolding behind_all
behind_all-append place [] ys = refl
behind_all-append place (x ∷ xs) ys = behind_all-append (behind place x) xs ys

-- a byte leads on by a line or a column
near : (place : Place) (feed : Bool) → ((cond {A = Place} feed (record { line = place.line + 1; column = 1 }) (record { line = place.line; column = place.column + 1 })).line ≤ place.line + 1)
    × ((cond {A = Place} feed (record { line = place.line + 1; column = 1 }) (record { line = place.line; column = place.column + 1 })).column ≤ place.column + 1)
near place true = (omega arith, omega arith)
near place false = (omega arith, omega arith)

-- no more lines and columns follow than bytes
pub behind_all-near : (place : Place) (bytes : List ℕ) → ((behind_all place bytes).line ≤ place.line + length bytes) × ((behind_all place bytes).column ≤ place.column + length bytes)
unfolding behind_all
behind_all-near place [] = (omega arith, omega arith)
behind_all-near place (b ∷ bytes) =
    let one = near place (b == 10) in
    let rest = behind_all-near (behind place b) bytes in (omega (arith, one.0, rest.0), omega (arith, one.1, rest.1))
