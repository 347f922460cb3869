use Rattle.std.proofs.Common.{ℕ, List, ◌++◌, take}
use Rattle.op_law.specs.Identifiers.{IdsRise}
use Rattle.table_keys.specs.States.{behind}
use Rattle.sought_ids.proofs.closed.rises.Given as goal

abbrev pub invariant-loop-id : goal.invariant-loop-id
invariant-loop-id l = (rest : List ℕ) → IdsRise (behind l.last) rest → IdsRise 0 (take l.id-index l.ids ++ rest)
