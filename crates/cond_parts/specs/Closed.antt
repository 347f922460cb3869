-- Identifiers that are closed in the memory of an operator on a condition.
use Rattle.std.specs.Prelude.{◌≡◌, ℕ, Bool, true, Some}
use Rattle.id_memory.specs.Pairs.{Pairs, pair_of}
use Rattle.pair_rows.specs.Halves.{first_of, second_of}
use Rattle.pair_rows.specs.Stays.{stands}
use Rattle.pair_parts.specs.Parts.{memory_only}

-- an identifier of an entry brings the two rows of it
abbrev pub BringsRows : (ℕ → Bool) → Pairs → Type 0
BringsRows P m = (id a b : ℕ) → pair_of m id ≡ Some (a, b) → P id ≡ true → (P a ≡ true) × (P b ≡ true)

-- a row that stands in an entry brings one that has it
abbrev pub BringsEntry : (ℕ → Bool) → (ℕ × ℕ × ℕ → ℕ) → Pairs → Type 0
BringsEntry P pick m = (q : ℕ) → P q ≡ true → stands pick m q ≡ true → stands pick (memory_only P m) q ≡ true

-- CLOSED IN A MEMORY: an identifier of an entry brings both rows of it, and a row of either table that stands in an entry brings one
pub record IsClosedIn (P : ℕ → Bool) (m : Pairs) : Type 0 where
  pub rows : BringsRows P m
  pub first : BringsEntry P first_of m
  pub second : BringsEntry P second_of m
