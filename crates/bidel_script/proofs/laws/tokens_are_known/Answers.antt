use Rattle.bidel_script.proofs.KnownLemmas.{tokens_are_known}
use Rattle.bidel_script.proofs.laws.tokens_are_known.Goals as goal

pub returns : goal.returns
returns c = tokens_are_known
