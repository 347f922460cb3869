use Rattle.std.proofs.Common.{◌≡◌, ◌<◌, length, sym, subst}
use Rattle.std.specs.Option.{IsSome}
use Rattle.version_graph.specs.Edges.{numbers, set_named, version_sets}
use Rattle.version_graph.specs.Sets.{In}
use Rattle.version_graph.proofs.NodeLaws.{set_listed}
use Rattle.version_graph.proofs.SetLaws.{each_at}
use Rattle.layout_rules.proofs.PassLaws.{if_ok_more}
use Rattle.layout_planner.specs.Costs.{costs_among, in_tree}
use Rattle.layout_planner.proofs.CostLemmas.{costs_some}
use Rattle.layout_planner.proofs.planning.costs.Goals as goal

pub costs_from-requires-clause-live : goal.costs_from-requires-clause-live
costs_from-requires-clause-live g c =
    let d = c.args.graph.now in
    each_at (λ n. In n (numbers d.edges)) (version_sets d.versions) c.in-Some.set (set_listed d.versions c.args.version.now c.in-Some.set (sym c.in-Some.ensures.set)) c.in-Some.ensures.graph.named

pub returns-in-Some-clause-some : goal.returns-in-Some-clause-some
returns-in-Some-clause-some g c =
    let d = c.args.graph.now in
    if_ok_more (λ made. made ≡ costs_among d c.args.counts.now (in_tree d.edges c.in-Some.set)) (λ made. IsSome (set_named d.versions c.args.version.now) → 0 < length made)
    (λ made is some. subst (λ l. 0 < length l) (sym is) (costs_some d c.in-Some.ensures.graph c.in-Some.set c.args.counts.now c.args.version.now (sym c.in-Some.ensures.set))) _ c.costs_from.ensures
