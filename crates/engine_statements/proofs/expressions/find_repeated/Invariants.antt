use Rattle.std.proofs.Common.{◌≡◌, [], drop, map, take}
use Rattle.statements.specs.Views.{assignment_view}
use Rattle.op_checks.specs.NameChecks.{repeated}
use Rattle.engine_statements.specs.Statements.{set_columns}
use Rattle.engine_statements.proofs.expressions.find_repeated.Given as goal

abbrev pub invariant-loop-at : goal.invariant-loop-at
invariant-loop-at l =
    repeated (set_columns (map assignment_view (take l.at l.assignments))) (set_columns (map assignment_view (drop l.at l.assignments)))
    ≡ repeated [] (set_columns (map assignment_view l.assignments))
