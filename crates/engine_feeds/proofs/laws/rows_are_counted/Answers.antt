use Rattle.engine_feeds.proofs.LawLemmas.{counted}
use Rattle.engine_feeds.proofs.laws.rows_are_counted.Goals as goal

pub returns : goal.returns
returns c = counted
