-- Memories, and the part of a pair at some identifiers, with that of its memory.
use Rattle.std.specs.Prelude.{ℕ, Bool, filter}
use Rattle.id_memory.specs.Pairs.{IsOneToOne, Pairs, RiseFrom}
use Rattle.op_law.specs.Local.{only}
use Rattle.op_law.specs.Meaning.{PairState}

-- the entries of a memory: their identifiers rise, and no pair stands twice
pub record IsMemory (m : Pairs) : Type 0 where
  pub rises : RiseFrom 0 m
  pub one : IsOneToOne m

-- the entries of the identifiers that pass
abbrev pub memory_only : (ℕ → Bool) → Pairs → Pairs
memory_only P m = filter (λ e. P e.0) m

-- THE PART OF A PAIR: both sides with the rows of these identifiers alone, and the memory with their entries
abbrev pub part_of_pair : (ℕ → Bool) → PairState → PairState
part_of_pair P p = record { source = only P p.source; target = only P p.target; memory = memory_only P p.memory }
