use Rattle.layout_rules.proofs.LookupLaws.{stored_test, stored_told}
use Rattle.layout_rules.proofs.laws.stored_is_told.Goals as goal

pub returns : goal.returns
returns g c es edges layout t = (λ h. stored_told es edges layout t h, λ s. stored_test es edges layout t s)
