-- How many steps a write takes at most, where each operator of its tree treats each identifier by itself.
use Rattle.std.specs.Prelude.{ℕ, ◌+◌, ◌*◌, ◌≤◌, List, length}
use Rattle.row_store.specs.declared.change.Change.{Change}
use Rattle.version_graph.specs.Forest.{forest, walk}
use Rattle.version_graph.specs.declared.parts.Placed.{Placed}
use Rattle.op_law.specs.Meaning.{Meaning}
use Rattle.version_model.specs.Bounds.{AreLocal}

-- at most sixteen steps for each operator of the tree and each identifier that the changes name
abbrev pub PlansWithin : {O : Type 0} → (O → Meaning) → List (Placed O) → ℕ → List Change → ℕ → ℕ → Type 0
PlansWithin meaning es w changes old new =
    let path = walk (forest es) w in
    AreLocal meaning path → new ≤ old + 16 * (length changes * length path)
