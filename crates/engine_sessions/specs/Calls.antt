-- What the calls of this crate ensure of their results.
use Rattle.std.specs.Prelude.{⊤}
use Rattle.engine_state.specs.Replies.{HasWidth, IsReply}
use Rattle.engine_sessions.specs.declared.answer.Answer.{Answer}
use Rattle.engine_sessions.specs.declared.answer.Answer.TheVariants.{Plain, Csv, Advice}

-- an answer that can be printed: its rows are as wide as its header
abbrev pub IsAnswer : Answer → Type 0
IsAnswer (Plain reply) = IsReply reply
IsAnswer (Csv header rows) = HasWidth header rows
IsAnswer (Advice costs best) = ⊤
