use Rattle.version_graph.specs.Forest.{forest}
use Rattle.version_graph.proofs.WalkLaws.{is_forest}
use Rattle.layout_rules.proofs.MoveLemmas.{flip_found, moves_valid}
use Rattle.layout_rules.proofs.laws.moves_stay_valid.Goals as goal

pub returns-clause-valid : goal.returns-clause-valid
returns-clause-valid g c es edges to valid_goal n layout last valid moves = moves_valid (forest es) (is_forest es edges) to valid_goal n layout last valid moves

pub returns-clause-found : goal.returns-clause-found
returns-clause-found g c es edges layout to valid valid_goal = flip_found layout to (forest es) (is_forest es edges) valid valid_goal
