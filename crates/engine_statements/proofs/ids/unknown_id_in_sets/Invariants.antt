use Rattle.std.proofs.Common.{◌≡◌, drop, map}
use Rattle.statements.specs.Views.{assignment_view}
use Rattle.engine_statements.specs.Found.{unknown_in}
use Rattle.engine_statements.specs.Statements.{set_values}
use Rattle.engine_statements.proofs.ids.unknown_id_in_sets.Given as goal

abbrev pub invariant-loop-assignment : goal.invariant-loop-assignment
invariant-loop-assignment l =
    unknown_in l.next (set_values (map assignment_view (drop l.assignment-index l.assignments))) ≡ unknown_in l.next (set_values (map assignment_view l.assignments))
