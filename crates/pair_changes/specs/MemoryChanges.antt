-- Exactly the difference of two memories.
use Rattle.std.specs.Prelude.{◌≡◌, ℕ, ◌+◌, ◌≤◌, ◌==◌, List, [], ◌∷◌, if◌then◌else◌, Option}
use Rattle.id_memory.specs.Pairs.{Pairs, pair_of}
use Rattle.pair_changes.specs.declared.change.PairChange.{PairChange}

-- the identifiers of the changes rise strictly, each with the pair that it had, and none leaves it
abbrev pub ArePairChanges : ℕ → Pairs → List PairChange → Type 0
ArePairChanges n before [] = Unit {0}
ArePairChanges n before (c ∷ cs) = (n ≤ c.id) × (c.old ≡ pair_of before c.id) × (c.old ≡ c.new → ⊥) × ArePairChanges (c.id + 1) before cs

-- what an identifier has after the changes
abbrev pub pair_after : List PairChange → ℕ → Option (ℕ × ℕ) → Option (ℕ × ℕ)
pair_after [] id pair = pair
pair_after (c ∷ cs) id pair = if c.id == id then c.new else pair_after cs id pair

-- THE DIFFERENCE OF TWO MEMORIES
pub record IsMemoryDifference (before now : Pairs) (changes : List PairChange) : Type 0 where
  pub fit : ArePairChanges 0 before changes
  pub new : (id : ℕ) → pair_of now id ≡ pair_after changes id (pair_of before id)
