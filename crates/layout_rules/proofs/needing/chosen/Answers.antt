use Rattle.layout_rules.specs.Lookups.{numbers_up, stays}
use Rattle.layout_rules.proofs.PassLaws.{filter_all, filter_next, past_numbers}
use Rattle.layout_rules.proofs.needing.chosen.Goals as goal

pub loop-place-preserved : goal.loop-place-preserved
loop-place-preserved g c =
    let es = c.args.graph.now.edges in
    let choice = c.args.choice in
    filter_next (stays es choice.trees.now choice.wanted.now choice.layout.now) (numbers_up es) c.loop-place.place c.loop-place.made _ _ c.number_at.ensures c.loop-place.invariant c.in_ok-push_staying.ensures

pub returns-clause-value : goal.returns-clause-value
returns-clause-value g c =
    let es = c.args.graph.now.edges in
    let choice = c.args.choice in
    filter_all (stays es choice.trees.now choice.wanted.now choice.layout.now) (numbers_up es) c.loop-place.place c.loop-place.made
    (past_numbers es c.loop-place.place _ c.live_operators-place-end.ensures.count c.loop-place-test.false) c.loop-place.invariant
