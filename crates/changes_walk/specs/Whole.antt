-- What mapping a whole pair answers.
use Rattle.std.specs.Prelude.{◌≡◌, ◌≤◌, Result, Ok, Err, ⊤}
use Rattle.par_base.specs.declared.fault.Fault.{Fault}
use Rattle.par_base.specs.declared.fault.Fault.TheVariants.{Refused, Memory as OutOfMemory}
use Rattle.par_base.specs.declared.refusal.IdsSpent.{IdsSpent}
use Rattle.id_memory.specs.States.{CounterState}
use Rattle.op_law.specs.Meaning.{PairState, Mapped}
use Rattle.op_law.specs.Calls.{first_refused, IsSpent}
use Rattle.row_changes.specs.Differences.{AreDifferences}
use Rattle.changes_walk.specs.declared.whole.WholeFar.{WholeFar}

-- the changes are exactly the difference of the old far side and the one that the mapping gives, and the memory is the new one; it is refused exactly where the mapping is
abbrev pub IsWholeTo : PairState → Mapped → CounterState → CounterState → Result WholeFar (Fault IdsSpent) → Type 0
IsWholeTo pair to old new (Ok far) = (to.next ≤ first_refused old) × AreDifferences pair.target to.far far.side.tables × (far.memory.entries ≡ to.memory) × (new ≡ record old { next = to.next })
IsWholeTo pair to old new (Err (Refused spent)) = IsSpent to.next old new spent
IsWholeTo pair to old new (Err (OutOfMemory memory)) = ⊤
