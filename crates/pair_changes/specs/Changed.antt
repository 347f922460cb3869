-- Memories after changes.
use Rattle.std.specs.Prelude.{◌≡◌, ℕ, ◌==◌, nat_lt, List, [], ◌∷◌, if◌then◌else◌, Option, Some, None}
use Rattle.id_memory.specs.Pairs.{Pairs, RiseFrom, IsOneToOne, pair_of}
use Rattle.pair_changes.specs.declared.change.PairChange.{PairChange}
use Rattle.pair_changes.specs.MemoryChanges.{IsMemoryDifference, pair_after}

-- entries with this pair in front, where there is one
abbrev pub with_pair : ℕ → Option (ℕ × ℕ) → Pairs → Pairs
with_pair id None es = es
with_pair id (Some pair) es = (id, pair.0, pair.1) ∷ es

-- the entries with this pair at the identifier, or with none there
abbrev pub put_pair : ℕ → Option (ℕ × ℕ) → Pairs → Pairs
put_pair id pair [] = with_pair id pair []
put_pair id pair (e ∷ es) = if nat_lt e.0 id then e ∷ put_pair id pair es else if e.0 == id then with_pair id pair es else with_pair id pair (e ∷ es)

-- THE MEMORY AFTER CHANGES: each new pair is at its identifier
abbrev pub changed_pairs : Pairs → List PairChange → Pairs
changed_pairs es [] = es
changed_pairs es (c ∷ cs) = put_pair c.id c.new (changed_pairs es cs)

-- the memory after the changes: it ascends, and each identifier has what it has after them
pub record IsMemoryChanged (before : Pairs) (changes : List PairChange) (now : Pairs) : Type 0 where
  pub rises : RiseFrom 0 now
  pub pairs : (id : ℕ) → pair_of now id ≡ pair_after changes id (pair_of before id)

-- the changes are the difference to a memory in which no pair stands twice
pub record PairsLeadTo (before now : Pairs) (changes : List PairChange) : Type 0 where
  pub rises : RiseFrom 0 now
  pub one : IsOneToOne now
  pub difference : IsMemoryDifference before now changes

-- there is such a memory
abbrev pub AreMemoryChanges : Pairs → List PairChange → Type 0
AreMemoryChanges before changes = (now : Pairs) × PairsLeadTo before now changes
