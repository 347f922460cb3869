use Rattle.phrases.specs.Reading.{one_at}
use Rattle.bidel_expr.specs.ReadAnswers.{ahead}
use Rattle.bidel_parser.specs.Words.{choice_of}
use Rattle.statements.specs.Views.{op_view}
use Rattle.bidel_parser.specs.Operators.{operator_words}
use Rattle.bidel_parser.specs.inner.OperatorReaders.{operator_rest_at, operator_at}
use Rattle.bidel_parser.proofs.ReadSteps.{gives_same, behind}
use Rattle.bidel_parser.proofs.operators.take_operator.Goals as goal

pub returns : goal.returns
returns c = gives_same op_view operator_at (operator_rest_at c.in_ok-word.word) c.args.cursor c.in_ok-word.rest c.operator_rest.result
    (behind (one_at (choice_of operator_words)) operator_rest_at (ahead c.args.cursor) (ahead c.in_ok-word.rest) c.in_ok-word.word c.in_ok-word.ensures) c.operator_rest.ensures
