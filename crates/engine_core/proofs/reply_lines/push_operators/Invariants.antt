use Rattle.std.proofs.Common.{◌≡◌, ◌++◌, string_bytes, flat_map, take}
use Rattle.engine_core.specs.Texts.{line, operator_text}
use Rattle.engine_core.proofs.reply_lines.push_operators.Given as goal

abbrev pub invariant-loop-operator : goal.invariant-loop-operator
invariant-loop-operator l = string_bytes l.text ≡ string_bytes l.fn.text ++ flat_map (λ operator. line (operator_text operator)) (take l.operator-index l.operators)
