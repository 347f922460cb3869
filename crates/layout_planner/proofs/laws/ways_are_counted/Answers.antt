use Rattle.version_graph.specs.Forest.{forest}
use Rattle.version_graph.proofs.WalkLaws.{is_forest}
use Rattle.layout_planner.proofs.WayLemmas.{way_counted}
use Rattle.layout_planner.proofs.laws.ways_are_counted.Goals as goal

pub returns : goal.returns
returns g c es edges layout valid t way rise told = way_counted (forest es) (is_forest es edges) layout valid t way rise told
