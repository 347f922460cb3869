use Rattle.std.proofs.Common.{arith, ◌∙◌}
use Rattle.version_graph.specs.Forest.{forest}
use Rattle.version_graph.proofs.WalkLaws.{is_forest}
use Rattle.layout_planner.proofs.WayLemmas.{way_counted, way_few}
use Rattle.layout_planner.proofs.reckoning.way_length.Goals as goal

pub returns-clause-length : goal.returns-clause-length
returns-clause-length g c =
    let es = c.args.graph.now.edges in
    c.len-2.ensures ∙ way_counted (forest es) (is_forest es c.requires.graph.edges) c.args.layout.now.operators c.requires.valid c.args.table c.in_ok-way_to_storage.field-0 c.in_ok-way_to_storage.ensures.ascending c.in_ok-way_to_storage.ensures.way

pub returns-clause-few : goal.returns-clause-few
returns-clause-few g c =
    let es = c.args.graph.now.edges in
    let same = returns-clause-length g c in
    let few = way_few es c.args.layout.now.operators c.args.table c.requires.graph.few in
    omega (arith, same, few)
