-- Each answer has lines.
use Rattle.engine_sessions.specs.EngineCoreLaws.{EndsLine}
use Rattle.engine_sessions.specs.Texts.{answer_bytes}
use Rattle.engine_sessions.specs.declared.answer.Answer.{Answer}

-- each answer has a line at least, and its last one ends, also rows as CSV and advice
abbrev pub AnswersAreLines : Type 0
AnswersAreLines = (answer : Answer) → EndsLine (answer_bytes answer)
