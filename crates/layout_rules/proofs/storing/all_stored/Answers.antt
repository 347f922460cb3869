use mathlib.Core.List.{reverse}
use Rattle.layout_rules.specs.Lookups.{is_stored}
use Rattle.layout_rules.proofs.PassLaws.{past_edges, tables_all, tables_next}
use Rattle.layout_rules.proofs.storing.all_stored.Goals as goal

pub loop-place-preserved : goal.loop-place-preserved
loop-place-preserved g c =
    let es = c.args.graph.now.edges in
    tables_next (is_stored es c.args.layout.now) (reverse es) c.loop-place.place c.loop-place.made _ c.loop-place.invariant c.in_ok-push_stored_at.ensures

pub returns-clause-value : goal.returns-clause-value
returns-clause-value g c =
    let es = c.args.graph.now.edges in
    tables_all (is_stored es c.args.layout.now) (reverse es) c.loop-place.place c.loop-place.made
    (past_edges es c.loop-place.place _ c.live_operators-place-end.ensures.count c.loop-place-test.false) c.loop-place.invariant
