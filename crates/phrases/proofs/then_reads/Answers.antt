use Rattle.phrases.specs.Laws.{Decided}
use Rattle.phrases.proofs.ReadersLaws.{then-reads}
use Rattle.phrases.proofs.then_reads.Goals as goal

pub returns : goal.returns
returns g c = λ more goes S T p f rp rf apart. then-reads more goes (Decided S) (λ a. Decided (T a)) p f rp rf apart
