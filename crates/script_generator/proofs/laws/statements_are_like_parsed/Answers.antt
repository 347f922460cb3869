use Rattle.script_generator.proofs.ScriptLemmas.{are_like_parsed}
use Rattle.script_generator.proofs.laws.statements_are_like_parsed.Goals as goal

pub returns : goal.returns
returns c = are_like_parsed
