use Rattle.layout_rules.specs.Changes.{is_empty}
use Rattle.layout_rules.specs.Lookups.{numbers_up, sources_or_none}
use Rattle.layout_rules.proofs.PassLaws.{filter_all, filter_next, past_numbers}
use Rattle.layout_planner.proofs.storing.creates.Goals as goal

pub loop-place-preserved : goal.loop-place-preserved
loop-place-preserved g c =
    let es = c.args.graph.now.edges in
    filter_next (λ n. is_empty (sources_or_none es n)) (numbers_up es) c.loop-place.place c.loop-place.operators _ _ c.number_at.ensures c.loop-place.invariant c.in_ok-push_create.ensures

pub returns : goal.returns
returns g c =
    let es = c.args.graph.now.edges in
    filter_all (λ n. is_empty (sources_or_none es n)) (numbers_up es) c.loop-place.place c.loop-place.operators
    (past_numbers es c.loop-place.place _ c.live_operators-place-end.ensures.count c.loop-place-test.false) c.loop-place.invariant
