use Rattle.version_graph.specs.Kept.{edges_of}
use Rattle.version_graph.proofs.NodeLaws.{number_place}
use Rattle.version_graph.proofs.look.number_at.Goals as goal

pub returns-in-Some : goal.returns-in-Some
returns-in-Some g c = number_place (edges_of c.args.nodes.now) c.args.place _ c.in-Some.ensures

pub returns-in-None : goal.returns-in-None
returns-in-None g c = number_place (edges_of c.args.nodes.now) c.args.place _ c.in-None.ensures
