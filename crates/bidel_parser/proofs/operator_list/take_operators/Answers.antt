use Rattle.std.proofs.Common.{map}
use Rattle.bidel_expr.specs.ReadAnswers.{ahead}
use Rattle.statements.specs.Views.{op_view}
use Rattle.bidel_parser.specs.inner.OperatorReaders.{listed_operators_at, further_operators_at}
use Rattle.bidel_parser.proofs.ReadSteps.{gives_same, listed_behind}
use Rattle.bidel_parser.proofs.operator_list.take_operators.Goals as goal

pub returns : goal.returns
returns c = gives_same (map op_view) (listed_operators_at c.args.ended) (further_operators_at c.args.ended (op_view c.in_ok-first.first)) c.args.cursor c.in_ok-first.rest c.further_operators.result
    (listed_behind c.args.ended (ahead c.args.cursor) (ahead c.in_ok-first.rest) (op_view c.in_ok-first.first) c.in_ok-first.ensures) c.further_operators.ensures
