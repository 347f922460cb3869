-- What mapping changes supposes and answers.
use Rattle.std.specs.Prelude.{◌≡◌, ℕ, ◌+◌, ◌*◌, ◌≤◌, Bool, true, false, List, length, Result, Ok, Err}
use Rattle.par_base.specs.declared.fault.Fault.{Fault}
use Rattle.par_base.specs.declared.fault.Fault.TheVariants.{Refused, Memory as OutOfMemory}
use Rattle.par_base.specs.declared.refusal.IdsSpent.{IdsSpent}
use Rattle.id_memory.specs.States.{CounterState}
use Rattle.op_law.specs.Tables.{Heading}
use Rattle.op_law.specs.Meaning.{Meaning, PairState, Mapped, exchanged, flip}
use Rattle.op_law.specs.Premises.{MayMap}
use Rattle.op_law.specs.Calls.{first_refused, IsSpent}
use Rattle.row_changes.specs.Changed.{TableChanges, AreChangesOf, changed_tables}
use Rattle.row_changes.specs.Differences.{AreDifferences}
use Rattle.row_changes.specs.Touched.{touched}
use Rattle.pair_changes.specs.MemoryChanges.{IsMemoryDifference}
use Rattle.operator_changes.specs.declared.change.FarChanges.{FarChanges}

-- an operator as it is crossed: forward, or backward as its flip is forward
abbrev pub toward : Bool → Meaning → Meaning
toward false m = m
toward true m = flip m

-- a pair as it is seen from the side from which it is crossed
abbrev pub ahead : Bool → PairState → PairState
ahead false p = p
ahead true p = exchanged p

-- what mapping changes supposes: each old row is that of the old near side, and the near side that they make may be mapped
pub record MayChange (m : Meaning) (near : TableChanges) (old : PairState) (n : ℕ) : Type 0 where
  pub hs : List Heading
  pub ht : List Heading
  pub fit : AreChangesOf old.source near
  pub may : MayMap m hs ht (changed_tables old.source near) old n

-- what the mapping gives of the near side that they make
abbrev pub mapped_changes : Meaning → TableChanges → PairState → ℕ → Mapped
mapped_changes m near old n = m.forward (changed_tables old.source near) old n

-- the changes are exactly the difference of the old far side and memory and those that the mapping gives
pub record IsFarDifference (old : PairState) (to : Mapped) (far : FarChanges) : Type 0 where
  pub side : AreDifferences old.target to.far far.side.tables
  pub memory : IsMemoryDifference old.memory to.memory far.memory

-- the answer, with the counter before and after: refused exactly where the mapping is
abbrev pub IsChangedTo : PairState → Mapped → CounterState → CounterState → Result FarChanges (Fault IdsSpent) → Type 0
IsChangedTo pair to old new (Ok far) = (to.next ≤ first_refused old) × IsFarDifference pair to far × (new ≡ record old { next = to.next })
IsChangedTo pair to old new (Err (Refused spent)) = IsSpent to.next old new spent
IsChangedTo pair to old new (Err (OutOfMemory memory)) = new ≡ old

-- where the operator treats each identifier by itself, at most six steps for each identifier that the changes name
abbrev pub ChangesWithin : Meaning → TableChanges → ℕ → ℕ → Type 0
ChangesWithin m near old new = m.is_local ≡ true → new ≤ old + 6 * length (touched near)
