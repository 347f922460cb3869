use Rattle.bidel_parser.proofs.ScriptLaws.{empty_script}
use Rattle.bidel_parser.proofs.laws.no_tokens_are_no_statements.Goals as goal

pub returns : goal.returns
returns c = empty_script
