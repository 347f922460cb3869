-- How many steps a look-up takes.
use Rattle.std.specs.Prelude.{ℕ, ◌+◌, ◌^◌, ◌<◌, ◌≤◌}

-- at most so many steps more than the number has binary digits: it has at most k where it is below 2 ^ k
abbrev pub WithinDigits : ℕ → ℕ → ℕ → ℕ → Type 0
WithinDigits n more before after = (k : ℕ) → n < 2 ^ k → after ≤ before + k + more
