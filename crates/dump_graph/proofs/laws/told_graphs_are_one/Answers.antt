use Rattle.dump_graph.proofs.OneLemmas.{one_graph}
use Rattle.dump_graph.proofs.laws.told_graphs_are_one.Goals as goal

pub returns : goal.returns
returns c = one_graph c.operators_are_said.ensures c.operator_is_one.ensures
