-- What the calls of an operator answer.
use Rattle.std.specs.Prelude.{◌≡◌, ℕ, ◌+◌, ◌*◌, ◌<◌, ◌≤◌, max, List, [], length, true, Result, Ok, Err, Option, Some, None}
use Rattle.par_base.specs.declared.fault.Fault.{Fault}
use Rattle.par_base.specs.declared.fault.Fault.TheVariants.{Refused, Memory as OutOfMemory}
use Rattle.par_base.specs.declared.refusal.IdsSpent.{IdsSpent}
use Rattle.id_memory.specs.Pairs.{Pairs}
use Rattle.id_memory.specs.States.{CounterState}
use Rattle.op_law.specs.declared.pair.Pair.{Pair}
use Rattle.op_law.specs.declared.pair.Far.{Far}
use Rattle.op_law.specs.declared.side.Aux.{Aux}
use Rattle.op_law.specs.Tables.{Tables, Heading, contents, AreTablesOf}
use Rattle.op_law.specs.Identifiers.{ids_over}
use Rattle.op_law.specs.Meaning.{Meaning, PairState, Mapped}
use Rattle.op_law.specs.Premises.{Belongs}

-- what the laws see of a pair
abbrev pub seen : Pair → PairState
seen pair = record { source = pair.source; target = pair.target; memory = pair.memory.entries }

-- the auxiliary tables, as the laws see them
abbrev pub tables_of : Aux → Tables
tables_of aux = contents aux.tables

-- the far side and the memory are those that a mapping gives
abbrev pub IsFar : Mapped → Far → Type 0
IsFar to far = (far.side ≡ to.far) × (far.memory.entries ≡ to.memory)

-- the first identifier that a counter doesn't give, where any are drawn
abbrev pub first_refused : CounterState → ℕ
first_refused counter = max counter.next (counter.limit + 1)

-- what was to raise the next identifier to `next` needs one that the counter doesn't give; the first such one is told, and none is drawn
abbrev pub IsSpent : ℕ → CounterState → CounterState → IdsSpent → Type 0
IsSpent next old new spent = (first_refused old < next) × (spent.needed ≡ first_refused old) × (spent.limit ≡ old.limit) × (new ≡ old)

-- the answer of a mapping, with the counter before and after: it is refused exactly where it would draw more than the counter gives
abbrev pub IsMapped : Mapped → CounterState → CounterState → Result Far (Fault IdsSpent) → Type 0
IsMapped to old new (Ok far) = (to.next ≤ first_refused old) × IsFar to far × (new ≡ record old { next = to.next })
IsMapped to old new (Err (Refused spent)) = IsSpent to.next old new spent
IsMapped to old new (Err (OutOfMemory memory)) = new ≡ old

-- the target of a related pair to which the source, the auxiliary tables and the memory belong, or none exactly where they belong to none
abbrev pub Admits : Meaning → Tables → Tables → Pairs → Option Tables → Type 0
Admits m near aux memory (Some far) = (hs ht : List Heading) → m.Fits hs ht → AreTablesOf hs near → Belongs m hs ht aux (record { source = near; target = far; memory = memory })
Admits m near aux memory None = (hs ht : List Heading) (far : Tables) → Belongs m hs ht aux (record { source = near; target = far; memory = memory }) → ⊥

-- where the operator treats each identifier by itself, a call takes at most so many steps for each identifier of these tables
abbrev pub StepsWithin : Meaning → ℕ → Tables → Tables → ℕ → ℕ → Type 0
StepsWithin m most near other old new = m.is_local ≡ true → new ≤ old + most * length (ids_over near (ids_over other []))

-- likewise a mapping: six steps for each identifier of the new near side and the old pair
abbrev pub MapsWithin : Meaning → Tables → PairState → ℕ → ℕ → Type 0
MapsWithin m near pair old new = m.is_local ≡ true → new ≤ old + 6 * length (ids_over near (ids_over pair.source (ids_over pair.target [])))
