use Rattle.phrases.specs.Reading.{one_at}
use Rattle.bidel_expr.specs.ReadAnswers.{ahead}
use Rattle.bidel_parser.specs.Words.{choice_of}
use Rattle.statements.specs.Views.{statement_view}
use Rattle.bidel_parser.specs.Statements.{statement_words}
use Rattle.bidel_parser.specs.inner.StatementReaders.{statement_rest_at, statement_at}
use Rattle.bidel_parser.proofs.ReadSteps.{gives_same, behind}
use Rattle.bidel_parser.proofs.statement_readers.take_statement.Goals as goal

pub returns : goal.returns
returns c = gives_same statement_view (statement_at c.args.ended) (statement_rest_at c.args.ended c.in_ok-word.word) c.args.cursor c.in_ok-word.rest c.statement_rest.result
    (behind (one_at (choice_of statement_words)) (statement_rest_at c.args.ended) (ahead c.args.cursor) (ahead c.in_ok-word.rest) c.in_ok-word.word c.in_ok-word.ensures) c.statement_rest.ensures
