use Rattle.std.proofs.Common.{◌≡◌, ◌∷◌, [], ◌+◌, ◌-◌, length, map}
use Rattle.phrases.specs.Reading.{many_at, with_front}
use Rattle.statements.specs.Views.{op_view}
use Rattle.bidel_parser.specs.Operators.{begins_operator}
use Rattle.bidel_parser.specs.inner.OperatorReaders.{closed_operator_at, operators_at}
use Rattle.bidel_expr.specs.ReadAnswers.{ahead}
use Rattle.bidel_parser.proofs.operator_list.further_operators.Given as goal

abbrev pub invariant-loop-turn : goal.invariant-loop-turn
invariant-loop-turn l = record {
  same : with_front (map op_view l.operators) (many_at begins_operator closed_operator_at l.ended (length (ahead l.fn.cursor) + 1 - l._turn) (ahead l.rest))
      ≡ with_front (op_view l.fn.first ∷ []) (operators_at l.ended (ahead l.fn.cursor));
}
