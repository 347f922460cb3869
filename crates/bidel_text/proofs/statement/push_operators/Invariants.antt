use Rattle.std.proofs.Common.{◌≡◌, ◌++◌, string_bytes, flat_map, take, codes, map}
use Rattle.statements.specs.Views.{op_view}
use Rattle.bidel_text.specs.OperatorText.{operator_text}
use Rattle.bidel_text.proofs.statement.push_operators.Given as goal

abbrev pub invariant-loop-operator : goal.invariant-loop-operator
invariant-loop-operator l = string_bytes l.made ≡ string_bytes l.fn.made ++ flat_map (λ o. codes " " ++ (operator_text o ++ codes ";")) (map op_view (take l.operator-index l.operators))
