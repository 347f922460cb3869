-- What a look-up by one half of pairs answers.
use Rattle.std.specs.Prelude.{ℕ, ◌≤◌, Option, MatchOption}

-- the least other half from this one on that `has` gives an identifier, with the identifier; none, where there is none
abbrev pub IsLeastFrom : (ℕ → ℕ → Type 0) → ℕ → Option (ℕ × ℕ) → Type 0
IsLeastFrom has from found =
    MatchOption found
    ((other p : ℕ) → from ≤ other → has other p → ⊥)
    (λ least. (from ≤ least.0) × has least.0 least.1 × ((other p : ℕ) → from ≤ other → has other p → least.0 ≤ other))
