use Rattle.engine_feeds.proofs.LawLemmas.{told}
use Rattle.engine_feeds.proofs.laws.watches_are_told.Goals as goal

pub returns : goal.returns
returns c = told
