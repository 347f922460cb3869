use Rattle.std.proofs.Common.{◌≤◌, length, arith}
use Rattle.layout_planner.proofs.CostLemmas.{planned_end, planned_step, versions_few}
use Rattle.layout_planner.proofs.planning.planned_costs.Goals as goal

pub loop-place-preserved : goal.loop-place-preserved
loop-place-preserved g c =
    let l = c.loop-place in
    planned_step c.args.graph.now c.args.plan l.place l.made _ l.invariant c.in_ok-push_cost.ensures

pub returns : goal.returns
returns g c =
    let l = c.loop-place in
    let few = versions_few c.args.graph.now c.live_operators-place-end.ensures.graph in
    let many = c.live_operators-place-end.ensures.count in
    let over = c.loop-place-test.false in
    let past : length c.args.graph.now.versions ≤ l.place = omega (arith, few, many, over) in
    planned_end c.args.graph.now c.args.plan l.place l.made past l.invariant
