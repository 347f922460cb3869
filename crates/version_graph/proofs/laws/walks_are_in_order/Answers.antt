use Rattle.version_graph.proofs.AscendLemmas.{walk_ascends}
use Rattle.version_graph.proofs.WalkLaws.{walk_in_order, walk_leaves_set}
use Rattle.version_graph.proofs.laws.walks_are_in_order.Goals as goal

pub returns-clause-order : goal.returns-clause-order
returns-clause-order g c es edges w = walk_in_order es edges w

pub returns-clause-ascends : goal.returns-clause-ascends
returns-clause-ascends g c es edges w = walk_ascends es edges w

pub returns-clause-set : goal.returns-clause-set
returns-clause-set g c es edges w = walk_leaves_set es edges w
