-- What was read is noted in the transaction at hand.
use Rattle.std.proofs.lemmas.Result.{err_from_is_err_and}
use Rattle.statements.specs.Views.{statement_view}
use Rattle.engine_transactions.specs.Calls.{standing_of}
use Rattle.engine_transactions.specs.ByKind.{full_at}
use Rattle.engine_transactions.proofs.KeptLemmas.{read_fails, read_noted}
use Rattle.engine_transactions.proofs.kept.Kept.read.Goals as goal

pub returns-in_err-answer-clause-answers : goal.returns-in_err-answer-clause-answers
returns-in_err-answer-clause-answers g c = λ o at.
    let s = standing_of c.args.self.now in
    let p = err_from_is_err_and c.from_residual-in_err-answer.result c.from_residual-in_err-answer.ensures.1 in
    rw (p.1, p.2) (read_fails s o.transaction _ (full_at s (statement_view c.args.statement)) (statement_view c.in_ok-statement.statement) c.wants_csv-csv.result c.in_err-answer.field-0.0 s c.wants_csv-csv.ensures c.in_ok-statement.ensures.full c.in_err-answer.ensures.gives)

pub returns-clause-answers : goal.returns-clause-answers
returns-clause-answers g c = λ o at.
    let s = standing_of c.args.self.now in
    read_noted s o (full_at s (statement_view c.args.statement)) (statement_view c.in_ok-statement.statement) _ c.wants_csv-csv.result c.in_ok-answer.answer c.in_ok-read.read _ at c.wants_csv-csv.ensures c.in_ok-statement.ensures.full c.in_ok-answer.ensures.gives c.in_ok-read.ensures c.session-session.result c.session-session.ensures c.in_ok-note.ensures.ok
