use Rattle.migration.proofs.CountLemmas.{moves_count}
use Rattle.migration.proofs.laws.moves_are_counted.Goals as goal

pub returns : goal.returns
returns g c es edges goal_layout n layout last moves ends = moves_count es edges goal_layout n layout last moves ends
