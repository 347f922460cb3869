use Rattle.version_graph.specs.Forest.{forest}
use Rattle.version_graph.proofs.WalkLaws.{is_forest}
use Rattle.layout_rules.proofs.NeededLaws.{closed_valid, found, found_has, found_needed}
use Rattle.layout_rules.proofs.laws.closing_stays_valid.Goals as goal

pub returns-clause-least : goal.returns-clause-least
returns-clause-least g c es edges trees tables =
    let links = is_forest es edges in
    (found (forest es) links trees tables, found_has (forest es) links trees tables, found_needed (forest es) links trees tables)

pub returns-clause-valid : goal.returns-clause-valid
returns-clause-valid g c es edges trees tables layout new valid closed none = closed_valid (forest es) (is_forest es edges) trees tables layout new valid closed none
