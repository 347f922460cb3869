-- Pairs of identifiers.
use Rattle.std.specs.Prelude.{◌≡◌, ℕ, ◌==◌, ◌&&◌, List, [], ◌∷◌, Bool, true, false, if◌then◌else◌}

abbrev pub IdPairs : Type 0
IdPairs = List (ℕ × ℕ)

-- whether the pair is there
unfoldable pub holds_pair : IdPairs → ℕ → ℕ → Bool
holds_pair [] a b = false
holds_pair (e ∷ es) a b = if a == e.0 && b == e.1 then true else holds_pair es a b

-- with this pair, and of every other what was there
abbrev pub IsWithPair : IdPairs → ℕ → ℕ → IdPairs → Type 0
IsWithPair before a b now = (c d : ℕ) → holds_pair now c d ≡ (if a == c && b == d then true else holds_pair before c d)
