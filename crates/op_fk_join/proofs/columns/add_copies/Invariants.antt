use Rattle.std.proofs.Common.{◌≡◌, ◌++◌, take}
use Rattle.op_fk_join.proofs.columns.add_copies.Given as goal

abbrev pub invariant-loop-value : goal.invariant-loop-value
invariant-loop-value l = l.all.items ≡ l.fn.row ++ take l.value-index l.values
