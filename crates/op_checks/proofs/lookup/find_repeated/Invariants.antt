use Rattle.std.proofs.Common.{◌≡◌, ◌∷◌, ◌++◌, drop, take}
use Rattle.version_graph.specs.Tables.{row_name}
use Rattle.op_checks.specs.NameChecks.{repeated}
use Rattle.op_checks.proofs.lookup.find_repeated.Given as goal

abbrev pub invariant-loop-at : goal.invariant-loop-at
invariant-loop-at l = repeated (row_name ∷ (l.known ++ take l.at l.names)) (drop l.at l.names) ≡ repeated (row_name ∷ l.known) l.names
