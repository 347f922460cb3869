-- What inner calls answer.
use Rattle.std.specs.Prelude.{◌≡◌, ℕ, ◌+◌, ◌≤◌, cond, List, length, Option, Some, Result, Ok, Err}
use Rattle.par_base.specs.declared.value.Value.{Value}
use Rattle.par_base.specs.declared.fault.Fault.{Fault}
use Rattle.par_base.specs.declared.fault.Fault.TheVariants.{Refused, Memory as OutOfMemory}
use Rattle.par_base.specs.declared.refusal.IdsSpent.{IdsSpent}
use Rattle.row_store.specs.States.{TableState}
use Rattle.id_memory.specs.States.{CounterState}
use Rattle.op_law.specs.Calls.{first_refused, IsSpent}
use Rattle.id_sets.specs.IdNumbers.{IdNumbers, number_of_id}
use Rattle.foreign_keys.specs.References.{is_goal}
use Rattle.foreign_keys.specs.DrawnIds.{numbered}

-- the drawn rows, with the counter before and after: refused exactly where it doesn't give so many identifiers
abbrev pub IsNumbered : List (List Value) → CounterState → CounterState → Result TableState (Fault IdsSpent) → Type 0
IsNumbered values old new (Ok table) = (table.rows ≡ numbered old.next values) × (new ≡ record old { next = old.next + length values }) × (old.next + length values ≤ first_refused old)
IsNumbered values old new (Err (Refused spent)) = IsSpent (old.next + length values) old new spent
IsNumbered values old new (Err (OutOfMemory memory)) = new ≡ old

-- the goal, where there is one, leads to this row, and each other to what it did
abbrev pub IsWithGoal : IdNumbers → Option ℕ → ℕ → IdNumbers → Type 0
IsWithGoal before goal id now = (q : ℕ) → number_of_id now q ≡ cond (is_goal goal q) (Some id) (number_of_id before q)
