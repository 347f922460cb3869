use Rattle.outer_law.proofs.BackwardLaws.{outer_on_laws}
use Rattle.outer_law.proofs.laws.outer_on_keeps_the_laws.Goals as goal

pub returns : goal.returns
returns c = outer_on_laws
