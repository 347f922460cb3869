use Rattle.phrases.specs.Laws.{Decided}
use Rattle.phrases.proofs.FrontsLaws.{fronts}
use Rattle.phrases.proofs.reads_fronts.Goals as goal

pub returns : goal.returns
returns g c = λ open' S p r over long. fronts open' (Decided S) p r over long
