use Rattle.script_run.proofs.TextLemmas.{one_text}
use Rattle.script_run.proofs.laws.text_is_one.Goals as goal

pub returns : goal.returns
returns c = one_text
