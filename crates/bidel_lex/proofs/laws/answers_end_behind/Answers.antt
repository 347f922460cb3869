use Rattle.bidel_lex.proofs.BehindLaws.{ends_behind}
use Rattle.bidel_lex.proofs.laws.answers_end_behind.Goals as goal

pub returns : goal.returns
returns c = ends_behind
