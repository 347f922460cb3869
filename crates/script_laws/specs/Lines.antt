-- Each statement is answered by lines.
use Rattle.statements.specs.Views.{StatementView}
use Rattle.engine_transactions.specs.EngineCoreLaws.{EndsLine}
use Rattle.engine_transactions.specs.Act.{act}
use Rattle.engine_transactions.specs.Standing.{Standing}
use Rattle.engine_transactions.specs.Replies.{text_of}

-- what is written for each statement has a line at least, and its last one ends, be it answered or refused
abbrev pub StatementsAreAnswered : Type 0
StatementsAreAnswered = (s : Standing) (statement : StatementView) → EndsLine (text_of (act s statement))
