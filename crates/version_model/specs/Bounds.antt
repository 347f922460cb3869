-- States in which some identifiers alone have rows, and operators that treat each identifier by itself.
use Rattle.std.specs.Prelude.{◌≡◌, ℕ, true, List}
use Rattle.version_graph.specs.Sets.{Each}
use Rattle.version_graph.specs.Forest.{Crossing}
use Rattle.op_law.specs.Identifiers.{has_id}
use Rattle.op_law.specs.Local.{only, rows_only}
use Rattle.op_law.specs.Meaning.{Meaning}
use Rattle.op_law.specs.Tables.{Tables}
use Rattle.version_model.specs.States.{State}

-- each of these tables has rows of these identifiers alone
abbrev pub AreAmong : List ℕ → Tables → Type 0
AreAmong ids ts = only (has_id ids) ts ≡ ts

-- every table of a state has
abbrev pub HasOnly : List ℕ → State → Type 0
HasOnly ids s = (t : ℕ) → rows_only (has_id ids) (s.tables t) ≡ s.tables t

-- each operator of these crossings treats each identifier by itself
abbrev pub AreLocal : {O : Type 0} → (O → Meaning) → List (Crossing O) → Type 0
AreLocal {O} meaning ps = Each (λ (p : Crossing O). (meaning p.operator).is_local ≡ true) ps
