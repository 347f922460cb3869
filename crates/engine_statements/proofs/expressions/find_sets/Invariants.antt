use Rattle.std.proofs.Common.{◌≡◌, ◌++◌, drop, map, Ok}
use Rattle.statements.specs.Views.{assignment_view}
use Rattle.par_base.specs.Checked.{◌then◌}
use Rattle.ordinary_table.specs.Written.{sets_of}
use Rattle.engine_statements.specs.Statements.{known_sets}
use Rattle.engine_statements.proofs.expressions.find_sets.Given as goal

abbrev pub invariant-loop-assignment : goal.invariant-loop-assignment
invariant-loop-assignment l =
    known_sets l.columns (map assignment_view l.assignments)
    ≡ ((known_sets l.columns (map assignment_view (drop l.assignment-index l.assignments))) then λ rest. Ok (sets_of l.sets ++ rest))
