use Rattle.std.proofs.Common.{◌≡◌, ◌++◌}
use Rattle.id_sets.proofs.id_set.IdSet.list.Given as goal

abbrev pub invariant-loop-id : goal.invariant-loop-id
invariant-loop-id l = l.ids ++ l.id-iterator ≡ l.self
