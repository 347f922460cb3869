use Rattle.script_stream.proofs.HoldLaws.{end_of_first}
use Rattle.script_stream.proofs.input.end_of_first.Goals as goal

pub returns-else-used-eq0 : goal.returns-else-used-eq0
returns-else-used-eq0 c = end_of_first _ c.args.tokens.now c.args.used c.requires c.if-used-eq0.false
