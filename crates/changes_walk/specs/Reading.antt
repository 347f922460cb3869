-- What is read of a state for one operator.
use Rattle.std.specs.Prelude.{ℕ, Bool, true, false, List, map}
use Rattle.op_law.specs.Meaning.{PairState}
use Rattle.version_model.specs.States.{State}

-- the pair of an operator between these tables
abbrev pub read_pair : State → List ℕ → List ℕ → ℕ → PairState
read_pair state source target number = record { source = map state.tables source; target = map state.tables target; memory = state.memory number }

-- the numbers of the tables on one side
abbrev pub numbers_at : Bool → List ℕ → List ℕ → List ℕ
numbers_at false source target = source
numbers_at true source target = target
