use Rattle.std.proofs.Common.{rules}
use Rattle.statements.specs.Views.{op_view}
use Rattle.dump_graph.proofs.PlacingLemmas.{edge_built}
use Rattle.dump_graph.proofs.placing.build_text.Goals as goal

pub returns-in-Ok : goal.returns-in-Ok
returns-in-Ok c =
    edge_built c.args.next c.args.graph.now.edges c.args.set c.args.text.now (op_view c.in-Some.operator) c.in-Ok.edge (search rules) (search rules) (search rules)
