-- One operator after another: the target of the first is the source of the second. Here hm are the headings of the middle side.
use Rattle.std.specs.Prelude.{◌≡◌, ℕ, ◌≤◌, List, true, Result, Ok, Err, Option, Some, None}
use Rattle.par_base.specs.declared.fault.Fault.{Fault}
use Rattle.par_base.specs.declared.fault.Fault.TheVariants.{Refused, Memory as OutOfMemory}
use Rattle.par_base.specs.declared.refusal.IdsSpent.{IdsSpent}
use Rattle.id_memory.specs.Pairs.{Pairs}
use Rattle.id_memory.specs.States.{CounterState}
use Rattle.op_law.specs.declared.pair.Far.{Far}
use Rattle.op_law.specs.Tables.{Tables, Heading, AreTablesOf}
use Rattle.op_law.specs.Meaning.{Meaning, PairState, Mapped}
use Rattle.op_law.specs.Premises.{IsSoundPair, MayMap, Belongs}
use Rattle.op_law.specs.Calls.{IsFar, first_refused, IsSpent}

-- what two mappings forward suppose: sound old pairs that share the middle side and its headings
pub record MayChain (a b : Meaning) (near : Tables) (first second : PairState) (n : ℕ) : Type 0 where
  pub hs : List Heading
  pub hm : List Heading
  pub ht : List Heading
  pub may : MayMap a hs hm near first n
  pub sound : IsSoundPair b hm ht second n
  pub closed : b.Closed n
  pub middle : first.target ≡ second.source

-- both mappings forward, the first of them first; backward is that of the flips, with the last of them first
abbrev pub chain_forward : Meaning → Meaning → Tables → PairState → PairState → ℕ → Mapped × Mapped
chain_forward a b near first second n = let middle = a.forward near first n in (middle, b.forward middle.far second middle.next)

-- the answer of two mappings that together raise the next identifier to `next`
abbrev pub AreMapped : Mapped → Mapped → ℕ → CounterState → CounterState → Result (Far × Far) (Fault IdsSpent) → Type 0
AreMapped first second next old new (Ok (f, g)) = (next ≤ first_refused old) × IsFar first f × IsFar second g × (new ≡ record old { next = next })
AreMapped first second next old new (Err (Refused spent)) = IsSpent next old new spent
AreMapped first second next old new (Err (OutOfMemory memory)) = new ≡ old

-- the auxiliary tables are those of these related pairs, which share the middle side and its headings
pub record ChainBelongs (a b : Meaning) (hs hm ht : List Heading) (first_aux second_aux : Tables) (first second : PairState) : Type 0 where
  pub first_belongs : Belongs a hs hm first_aux first
  pub second_belongs : Belongs b hm ht second_aux second
  pub middle : first.target ≡ second.source

-- a source, auxiliary tables and memories of related pairs; the first operator gives back its target
pub record ChainStored (a b : Meaning) (near first_aux second_aux : Tables) (first_memory second_memory : Pairs) : Type 0 where
  pub hs : List Heading
  pub hm : List Heading
  pub ht : List Heading
  pub between : Tables
  pub far : Tables
  pub reads : a.reads_target ≡ true
  pub belongs : ChainBelongs a b hs hm ht first_aux second_aux (record { source = near; target = between; memory = first_memory }) (record { source = between; target = far; memory = second_memory })

-- the middle and the far side from the near one
abbrev pub chain_read : Meaning → Meaning → Tables → Tables → Tables → Pairs → Pairs → Tables × Tables
chain_read a b near first_aux second_aux first_memory second_memory = let between = a.read_target near first_aux first_memory in (between, b.read_target between second_aux second_memory)

-- tables for which the chain is built as sources; the first operator gives back its target
pub record ChainNear (a b : Meaning) (near : Tables) : Type 0 where
  pub hs : List Heading
  pub hm : List Heading
  pub ht : List Heading
  pub first_fits : a.Fits hs hm
  pub second_fits : b.Fits hm ht
  pub near_of : AreTablesOf hs near
  pub reads : a.reads_target ≡ true

-- the middle and the far side of related pairs to which the near side, the auxiliary tables and the memories belong, or none exactly where they belong to none
abbrev pub ChainAdmits : Meaning → Meaning → Tables → Tables → Tables → Pairs → Pairs → Option (Tables × Tables) → Type 0
ChainAdmits a b near first_aux second_aux first_memory second_memory (Some (between, far)) = (hs hm ht : List Heading) → a.Fits hs hm → b.Fits hm ht → AreTablesOf hs near → ChainBelongs a b hs hm ht first_aux second_aux (record { source = near; target = between; memory = first_memory }) (record { source = between; target = far; memory = second_memory })
ChainAdmits a b near first_aux second_aux first_memory second_memory None = (hs hm ht : List Heading) (between far : Tables) → ChainBelongs a b hs hm ht first_aux second_aux (record { source = near; target = between; memory = first_memory }) (record { source = between; target = far; memory = second_memory }) → ⊥
