use Rattle.std.proofs.Common.{◌≡◌, string_bytes, flat_map, take}
use Rattle.engine_moves.specs.EngineCoreTexts.{line}
use Rattle.engine_sessions.specs.Texts.{cost_text}
use Rattle.engine_sessions.proofs.answer_lines.advice_text.Given as goal

abbrev pub invariant-loop-cost : goal.invariant-loop-cost
invariant-loop-cost l = string_bytes l.text ≡ flat_map (λ cost. line (cost_text cost)) (take l.cost-index l.costs)
