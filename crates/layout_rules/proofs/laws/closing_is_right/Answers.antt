use Rattle.layout_rules.proofs.ClosedLemmas.{closing_right}
use Rattle.layout_rules.proofs.laws.closing_is_right.Goals as goal

pub returns : goal.returns
returns g c d edges layout named = closing_right d edges layout named
