use Rattle.std.proofs.Common.{◌≡◌, ◌++◌, take}
use Rattle.op_rows.proofs.ids.add_rest.Given as goal

abbrev pub invariant-loop-id : goal.invariant-loop-id
invariant-loop-id l = l.all ≡ l.fn.all ++ take l.id-index l.rest
