use Rattle.phrases.specs.Reading.{none}
use Rattle.phrases.proofs.ReadersLaws.{one-reads}
use Rattle.phrases.proofs.one_reads.Goals as goal

pub returns : goal.returns
returns g c = λ f t a known. one-reads none f t a known
