use Rattle.layout_rules.specs.Lookups.{numbers_up}
use Rattle.layout_rules.proofs.PassLaws.{filter_all, filter_next, past_numbers}
use Rattle.migration.specs.Sides.{changes_side}
use Rattle.migration.proofs.sides.changing.Goals as goal

pub loop-place-preserved : goal.loop-place-preserved
loop-place-preserved g c =
    filter_next (changes_side c.args.layout.now c.args.goal.now) (numbers_up c.args.graph.now.edges) c.loop-place.place c.loop-place.made _ _ c.number_at.ensures c.loop-place.invariant c.in_ok-push_changing.ensures

pub returns : goal.returns
returns g c =
    let es = c.args.graph.now.edges in
    filter_all (changes_side c.args.layout.now c.args.goal.now) (numbers_up es) c.loop-place.place c.loop-place.made
    (past_numbers es c.loop-place.place _ c.live_operators-place-end.ensures.count c.loop-place-test.false) c.loop-place.invariant
