use Rattle.layout_planner.proofs.BestLemmas.{best_is}
use Rattle.layout_planner.proofs.cheapest.best.Goals as goal

pub returns-clause-version : goal.returns-clause-version
returns-clause-version c = best_is c.args.costs.now c.first_least.result c.first_least.ensures
