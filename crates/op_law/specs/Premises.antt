-- Related pairs, when a pair is sound, and what the laws suppose. Here hs are the headings of the sources, and ht those of the targets.
use Rattle.std.specs.Prelude.{◌≡◌, ℕ, List}
use Rattle.id_memory.specs.Pairs.{Pairs}
use Rattle.op_law.specs.Tables.{Tables, Heading, AreTablesOf}
use Rattle.op_law.specs.Sound.{TablesSound, PairsSound}
use Rattle.op_law.specs.Meaning.{Meaning, PairState}

-- a related pair of an operator that is built for these headings
pub record IsPair (m : Meaning) (hs ht : List Heading) (p : PairState) : Type 0 where
  pub fits : m.Fits hs ht
  pub related : m.Related p.source p.target p.memory
  pub source_of : AreTablesOf hs p.source
  pub target_of : AreTablesOf ht p.target

-- a related pair that may stand while n is the next identifier
pub record IsSoundPair (m : Meaning) (hs ht : List Heading) (p : PairState) (n : ℕ) : Type 0 where
  pub pair : IsPair m hs ht p
  pub source : TablesSound n p.source
  pub target : TablesSound n p.target
  pub memory : PairsSound n p.memory

-- what the laws suppose of a mapping forward: a sound old pair, and a new source that may stand
pub record MayMap (m : Meaning) (hs ht : List Heading) (near : Tables) (old : PairState) (n : ℕ) : Type 0 where
  pub sound : IsSoundPair m hs ht old n
  pub closed : m.Closed n
  pub near_of : AreTablesOf hs near
  pub near_sound : TablesSound n near

-- the pair after a mapping forward
abbrev pub pair_after : Meaning → Tables → PairState → ℕ → PairState
pair_after m near old n = record { source = near; target = (m.forward near old n).far; memory = (m.forward near old n).memory }

-- the auxiliary tables are those of this related pair, whose source is stored
pub record Belongs (m : Meaning) (hs ht : List Heading) (aux : Tables) (p : PairState) : Type 0 where
  pub pair : IsPair m hs ht p
  pub aux_is : aux ≡ m.aux_at_source p

-- the same premises for some headings

pub record SomePair (m : Meaning) (p : PairState) : Type 0 where
  pub hs : List Heading
  pub ht : List Heading
  pub pair : IsPair m hs ht p

pub record SomeMap (m : Meaning) (near : Tables) (old : PairState) (n : ℕ) : Type 0 where
  pub hs : List Heading
  pub ht : List Heading
  pub may : MayMap m hs ht near old n

-- a source, auxiliary tables and a memory of one related pair
pub record SomeStored (m : Meaning) (near aux : Tables) (memory : Pairs) : Type 0 where
  pub hs : List Heading
  pub ht : List Heading
  pub far : Tables
  pub belongs : Belongs m hs ht aux (record { source = near; target = far; memory = memory })

-- tables for which the operator is built as sources
pub record SomeNear (m : Meaning) (near : Tables) : Type 0 where
  pub hs : List Heading
  pub ht : List Heading
  pub fits : m.Fits hs ht
  pub near_of : AreTablesOf hs near
