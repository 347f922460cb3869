use Rattle.std.proofs.Common.{◌∙◌}
use Rattle.version_graph.specs.Kept.{edges_of}
use Rattle.version_graph.proofs.PlaceLaws.{live_known}
use Rattle.version_graph.proofs.place.is_live.Goals as goal

pub returns : goal.returns
returns g c = c.is_some.ensures ∙ live_known (edges_of c.args.nodes.now) c.args.set c.edge_of.result c.edge_of.ensures
