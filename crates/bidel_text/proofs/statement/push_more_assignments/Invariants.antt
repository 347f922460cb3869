use Rattle.std.proofs.Common.{◌≡◌, ◌++◌, string_bytes, flat_map, take, codes, map}
use Rattle.statements.specs.Views.{assignment_view}
use Rattle.bidel_text.specs.StatementText.{assignment_text}
use Rattle.bidel_text.proofs.statement.push_more_assignments.Given as goal

abbrev pub invariant-loop-assignment : goal.invariant-loop-assignment
invariant-loop-assignment l = string_bytes l.made ≡ string_bytes l.fn.made ++ flat_map (λ item. codes ", " ++ assignment_text item) (map assignment_view (take l.assignment-index l.assignments))
