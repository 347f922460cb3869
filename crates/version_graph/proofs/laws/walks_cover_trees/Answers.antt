use Rattle.version_graph.proofs.TreeLaws.{hangs_together, together_in_tree, tree_in_walk, walk_in_tree}
use Rattle.version_graph.proofs.laws.walks_cover_trees.Goals as goal

pub returns-clause-covers : goal.returns-clause-covers
returns-clause-covers g c es edges w n i = (λ crosses. walk_in_tree es edges w n crosses, λ same. tree_in_walk es w n i same)

pub returns-clause-together : goal.returns-clause-together
returns-clause-together g c es edges v w i j = (λ same. hangs_together es edges v w i j same, λ h. together_in_tree es edges v w h)
