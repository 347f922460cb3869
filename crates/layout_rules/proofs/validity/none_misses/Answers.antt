use Rattle.std.proofs.Common.{refl, sym, ◌∙◌}
use Rattle.layout_rules.specs.Lookups.{may_miss, numbers_up}
use Rattle.layout_rules.proofs.PassLaws.{all_pass, past_numbers, place_fails, place_passes}
use Rattle.layout_rules.proofs.validity.none_misses.Goals as goal

pub returns-then-not-may_miss_at-clause-value : goal.returns-then-not-may_miss_at-clause-value
returns-then-not-may_miss_at-clause-value g c =
    let es = c.args.graph.now.edges in
    place_fails (may_miss es c.args.layout.now) (numbers_up es) c.loop-place.place _ refl (sym c.may_miss_at.ensures ∙ c.if-not-may_miss_at.true)

pub loop-place-preserved : goal.loop-place-preserved
loop-place-preserved g c =
    let es = c.args.graph.now.edges in
    place_passes (may_miss es c.args.layout.now) (numbers_up es) c.loop-place.place _ refl (sym c.may_miss_at.ensures ∙ c.if-not-may_miss_at.false) c.loop-place.invariant

pub returns-clause-value : goal.returns-clause-value
returns-clause-value g c =
    let es = c.args.graph.now.edges in
    all_pass (may_miss es c.args.layout.now) (numbers_up es) c.loop-place.place (past_numbers es c.loop-place.place _ c.live_operators-place-end.ensures.count c.loop-place-test.false) c.loop-place.invariant
