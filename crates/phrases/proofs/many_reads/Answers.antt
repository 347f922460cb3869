use Rattle.phrases.specs.Laws.{Decided}
use Rattle.phrases.proofs.Manys.{many-reads}
use Rattle.phrases.proofs.many_reads.Goals as goal

pub returns : goal.returns
returns g c = λ more first S item items begins fresh. many-reads more first (Decided S) item items begins fresh
