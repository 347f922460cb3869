use Rattle.dump_file.proofs.OneLemmas.{one_database, one_graph}
use Rattle.dump_file.proofs.laws.dumps_are_of_one_database.Goals as goal

pub returns-clause-graph : goal.returns-clause-graph
returns-clause-graph c d p q first second = one_graph c.told_graphs_are_one.ensures d p q first second

pub returns-clause-whole : goal.returns-clause-whole
returns-clause-whole c d p q first second limit = one_database c.told_graphs_are_one.ensures d p q first second limit
