use Rattle.phrases.specs.Reading.{and_then, done}
use Rattle.bidel_expr.specs.ReadAnswers.{ahead}
use Rattle.bidel_expr.specs.Expressions.{expression_at}
use Rattle.bidel_parser.specs.Words.{choice_of}
use Rattle.statements.specs.Views.{key_view, Condition}
use Rattle.bidel_parser.specs.Operators.{key_words}
use Rattle.bidel_parser.specs.inner.OperatorReaders.{key_rest_at, key_at}
use Rattle.bidel_parser.proofs.ReadSteps.{gives_same, choice_behind}
use Rattle.bidel_parser.proofs.keys.take_key.Goals as goal

pub returns-in-Some : goal.returns-in-Some
returns-in-Some c = gives_same key_view key_at (key_rest_at c.in-Some.word) c.args.cursor c.in-Some.rest c.key_rest.result
    (choice_behind (choice_of key_words) key_rest_at (and_then expression_at λ condition. done (Condition condition)) (ahead c.args.cursor) (ahead c.in-Some.rest) c.in-Some.word c.in-Some.ensures)
    c.key_rest.ensures
