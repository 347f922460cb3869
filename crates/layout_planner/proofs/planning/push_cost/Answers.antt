use Rattle.layout_planner.proofs.CostLemmas.{version_at_known}
use Rattle.layout_planner.proofs.planning.push_cost.Goals as goal

pub version_cost-requires-clause-live : goal.version_cost-requires-clause-live
version_cost-requires-clause-live g c = version_at_known c.args.graph.now.versions c.args.place c.in-Some.set c.in-Some.version.now c.in-Some.ensures
