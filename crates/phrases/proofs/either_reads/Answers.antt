use Rattle.phrases.specs.Laws.{Decided}
use Rattle.phrases.proofs.ReadersLaws.{either-reads}
use Rattle.phrases.proofs.either_reads.Goals as goal

pub returns : goal.returns
returns g c = λ more first S T p q rp rq begins lacks. either-reads more first (Decided S) (Decided T) p q rp rq begins lacks
