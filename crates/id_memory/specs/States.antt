-- What contracts see of counters and memories.
use Rattle.std.specs.Prelude.{ℕ}
use Rattle.id_memory.specs.Pairs.{Pairs}

-- the next identifier, and the greatest that may be drawn
pub record CounterState : Type 0 where
  pub next : ℕ
  pub limit : ℕ

-- the entries, and how many more fit without memory
pub record MemoryState : Type 0 where
  pub entries : Pairs
  pub room : ℕ
