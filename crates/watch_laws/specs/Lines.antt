-- Each statement is answered by lines, with watches.
use Rattle.statements.specs.Views.{StatementView}
use Rattle.engine_feeds.specs.EngineCoreLaws.{EndsLine}
use Rattle.engine_feeds.specs.Act.{act}
use Rattle.engine_feeds.specs.Replies.{text_of}
use Rattle.engine_feeds.specs.Standing.{Standing}

-- what is written for each statement has a line at least, and its last one ends, be it answered or refused
abbrev pub StatementsAreAnswered : Type 0
StatementsAreAnswered = (s : Standing) (statement : StatementView) → EndsLine (text_of (act s statement))
