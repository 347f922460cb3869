-- What an operator is: a relation between two sides, a mapping either way, and what either side keeps of the other.
use Rattle.std.specs.Prelude.{ℕ, List, Bool}
use Rattle.id_memory.specs.Pairs.{Pairs}
use Rattle.op_law.specs.Tables.{Tables, Heading}

-- the two sides of an operator, and its memory
pub record PairState : Type 0 where
  pub source : Tables
  pub target : Tables
  pub memory : Pairs

-- the pair with its sides exchanged
abbrev pub exchanged : PairState → PairState
exchanged p = record { source = p.target; target = p.source; memory = p.memory }

-- what a mapping gives: the far side, the memory, and the next identifier after all that it draws
pub record Mapped : Type 0 where
  pub far : Tables
  pub memory : Pairs
  pub next : ℕ

pub record Meaning : Type 1 where
  -- it is built for sources and targets with these headings
  pub Fits : List Heading → List Heading → Type 0
  -- its expressions hold no reference that isn't below the next identifier, and no text that is too long
  pub Closed : ℕ → Type 0
  -- source, target and memory are related
  pub Related : Tables → Tables → Pairs → Type 0
  -- from a new source, the old pair and the next identifier, as if identifiers never ran out
  pub forward : Tables → PairState → ℕ → Mapped
  -- from a new target, likewise
  pub backward : Tables → PairState → ℕ → Mapped
  -- the auxiliary tables of a pair whose source is stored
  pub aux_at_source : PairState → Tables
  -- the auxiliary tables of a pair whose target is stored
  pub aux_at_target : PairState → Tables
  -- the target from a source, its auxiliary tables and the memory
  pub read_target : Tables → Tables → Pairs → Tables
  -- the source from a target, its auxiliary tables and the memory
  pub read_source : Tables → Tables → Pairs → Tables
  -- the target of a related pair is read back so: all operators but CREATE TABLE
  pub reads_target : Bool
  -- the source of a related pair is read back so
  pub reads_source : Bool
  -- it treats each identifier by itself
  pub is_local : Bool

-- the operator with its sides exchanged
abbrev pub flip : Meaning → Meaning
flip m = record {
  Fits = λ hs ht. m.Fits ht hs;
  Closed = m.Closed;
  Related = λ s t pairs. m.Related t s pairs;
  forward = λ near old n. m.backward near (exchanged old) n;
  backward = λ near old n. m.forward near (exchanged old) n;
  aux_at_source = λ p. m.aux_at_target (exchanged p);
  aux_at_target = λ p. m.aux_at_source (exchanged p);
  read_target = m.read_source;
  read_source = m.read_target;
  reads_target = m.reads_source;
  reads_source = m.reads_target;
  is_local = m.is_local;
}
