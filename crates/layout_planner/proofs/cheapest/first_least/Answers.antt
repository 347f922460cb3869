use Rattle.std.proofs.Common.{◌<◌, length, arith}
use Rattle.std.proofs.lemmas.List.{length-map}
use Rattle.layout_planner.specs.Best.{numbers_of}
use Rattle.layout_planner.specs.declared.planning.VersionCost.{VersionCost}
use Rattle.layout_planner.proofs.BestLemmas.{cost_read, leads_new, leads_old}
use Rattle.layout_planner.proofs.cheapest.first_least.Goals as goal
use Rattle.layout_planner.proofs.cheapest.first_least.Goals.{then-other-least, else-other-least}

pub loop-place-preserved : goal.loop-place-preserved
loop-place-preserved c =
    let l = c.loop-place in
    let costs = c.args.costs.now in
    let here = cost_read costs l.place c.index-costs-place.result c.loop-place-test.true c.index-costs-place.is in
    let many = length-map costs (λ (x : VersionCost). x.cost) in
    let inside : l.place < length (numbers_of costs) = omega (arith, many) in
    elim c.if-other-least.branch [
      | then-other-least w ↦ rw (w.at-is, w.least-is) (leads_new (numbers_of costs) l.place l.at l.least c.index-costs-place.result.cost l.invariant inside here w.if-other-least.true)
      | else-other-least w ↦ rw (w.at-is, w.least-is) (leads_old (numbers_of costs) l.place l.at l.least c.index-costs-place.result.cost l.invariant here w.if-other-least.false)
    ]
