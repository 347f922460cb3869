use Rattle.std.proofs.Common.{◌≡◌, ◌++◌, take}
use Rattle.op_key_join.proofs.joins.with_values.Given as goal

abbrev pub invariant-loop-value : goal.invariant-loop-value
invariant-loop-value l = l.made ≡ l.fn.row ++ take l.value-index l.values
