-- Laws of changed memories.
use Rattle.std.specs.Prelude.{◌≡◌, List}
use Rattle.id_memory.specs.Pairs.{Pairs, RiseFrom}
use Rattle.pair_changes.specs.declared.change.PairChange.{PairChange}
use Rattle.pair_changes.specs.Changed.{IsMemoryChanged, changed_pairs}
use Rattle.pair_changes.specs.MemoryChanges.{IsMemoryDifference}

-- the memory after changes is the one that they make
abbrev pub ChangedIsChanged : Type 0
ChangedIsChanged = (before : Pairs) (changes : List PairChange) → RiseFrom 0 before → IsMemoryChanged before changes (changed_pairs before changes)

-- a difference makes the second memory of the first
abbrev pub DifferenceMakes : Type 0
DifferenceMakes = (before now : Pairs) (changes : List PairChange) → RiseFrom 0 before → RiseFrom 0 now → IsMemoryDifference before now changes → changed_pairs before changes ≡ now
