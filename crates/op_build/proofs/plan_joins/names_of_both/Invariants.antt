use Rattle.std.proofs.Common.{◌≡◌, ◌++◌, take}
use Rattle.op_build.proofs.plan_joins.names_of_both.Given as goal

abbrev pub invariant-loop-name : goal.invariant-loop-name
invariant-loop-name l = l.made ≡ l.first ++ take l.name-index l.second
