-- Answers of calls that draw identifiers.
use Rattle.std.specs.Prelude.{◌≡◌, ℕ, ◌<◌, ◌≤◌, Result, Ok, Err}
use Rattle.par_base.specs.declared.fault.Fault.{Fault}
use Rattle.par_base.specs.declared.fault.Fault.TheVariants.{Refused, Memory as OutOfMemory}
use Rattle.par_base.specs.declared.refusal.IdsSpent.{IdsSpent}
use Rattle.id_memory.specs.States.{CounterState}
use Rattle.op_law.specs.Calls.{first_refused}

-- an identifier is needed that the counter doesn't give, and the first such one is told; or memory ran out
abbrev pub WasRefused : ℕ → CounterState → Fault IdsSpent → Type 0
WasRefused next old (Refused spent) = (first_refused old < next) × (spent.needed ≡ first_refused old) × (spent.limit ≡ old.limit)
WasRefused next old (OutOfMemory memory) = Unit {0}

-- the answer has the property and the next identifier is this one, or it is refused exactly where that would draw more than the counter gives
abbrev pub Draws : {T : Type 0} → ℕ → CounterState → CounterState → (T → Type 0) → Result T (Fault IdsSpent) → Type 0
Draws next old new is (Ok x) = (next ≤ first_refused old) × is x × (new ≡ record old { next = next })
Draws next old new is (Err fault) = WasRefused next old fault
