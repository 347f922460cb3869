use Rattle.std.proofs.Common.{sym}
use Rattle.version_graph.proofs.EvolveLaws.{length_edges}
use Rattle.version_graph.proofs.grow.count.Goals as goal

pub returns : goal.returns
returns g c = sym (length_edges c.args.nodes.now)
