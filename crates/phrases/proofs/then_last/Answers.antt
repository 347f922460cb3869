use Rattle.phrases.specs.Laws.{Decided}
use Rattle.phrases.proofs.LastsLaws.{closed-then}
use Rattle.phrases.proofs.then_last.Goals as goal

pub returns : goal.returns
returns g c = λ open' S T p f rp rf. closed-then open' (Decided S) (λ a. Decided (T a)) p f rp rf
