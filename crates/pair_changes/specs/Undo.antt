-- Room for changes of a memory, and when they can be taken back.
use Rattle.std.specs.Prelude.{ℕ, ◌+◌, ◌≤◌, List, [], ◌∷◌, map, is_some, if◌then◌else◌}
use Rattle.id_memory.specs.Pairs.{Pairs}
use Rattle.pair_changes.specs.declared.change.PairChange.{PairChange}
use Rattle.pair_changes.specs.Changed.{PairsLeadTo}

-- how many of the changes put a pair
abbrev pub puts : List PairChange → ℕ
puts [] = 0
puts (c ∷ cs) = (if is_some c.new then 1 else 0) + puts cs

-- how many take one out
abbrev pub takes : List PairChange → ℕ
takes [] = 0
takes (c ∷ cs) = (if is_some c.old then 1 else 0) + takes cs

-- once the old pairs are out there is room for the new ones
abbrev pub PairsFit : ℕ → List PairChange → Type 0
PairsFit room changes = puts changes ≤ room + takes changes

-- the change the other way round
abbrev pub turned : PairChange → PairChange
turned c = record { id = c.id; old = c.new; new = c.old }

-- the reverse of changes
abbrev pub turned_changes : List PairChange → List PairChange
turned_changes changes = map turned changes

-- the changes lead from the memory after a change to the one before, and there is room for its pairs
pub record PairsLeadBack (before now : Pairs) (spare : ℕ) (back : List PairChange) : Type 0 where
  pub lead : PairsLeadTo now before back
  pub room : PairsFit spare back
