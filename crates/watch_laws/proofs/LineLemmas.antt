-- Each statement is answered by lines.
use Rattle.std.specs.Prelude.{Ok, Err}
use Rattle.par_base.specs.Checked.{Checked}
use Rattle.script_laws.specs.SessionLawsLines.{AnswersAreLines}
use Rattle.engine_feeds.specs.Answer.{Answer}
use Rattle.engine_feeds.specs.EngineCoreLaws.{EndsLine, RefusalsAreLines}
use Rattle.engine_feeds.specs.Act.{act}
use Rattle.engine_feeds.specs.Replies.{text_of}
use Rattle.engine_feeds.specs.Standing.{Standing}
use Rattle.watch_laws.specs.Lines.{StatementsAreAnswered}

told_ends : AnswersAreLines → RefusalsAreLines → (answer : Checked (Answer × Standing)) → EndsLine (text_of answer)
told_ends answers refusals (Ok answer) = answers answer.0
told_ends answers refusals (Err refusal) = refusals refusal

pub statements_end : AnswersAreLines → RefusalsAreLines → StatementsAreAnswered
statements_end answers refusals s statement = told_ends answers refusals (act s statement)
