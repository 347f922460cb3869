use Rattle.std.proofs.Common.{◌≡◌, ℕ, List, map, sym, ap, ◌∙◌, subst}
use Rattle.version_graph.specs.Edges.{Rises}
use Rattle.version_graph.specs.Forest.{forest, step_told, walk}
use Rattle.version_graph.specs.declared.parts.Step.{Step}
use Rattle.layout_rules.proofs.PassLaws.{if_ok_more}
use Rattle.layout_planner.specs.Costs.{costs_among, in_tree, tables_of}
use Rattle.layout_planner.specs.inner.Plans.{walked_costs}
use Rattle.layout_planner.specs.inner.Walked.{is_walked}
use Rattle.layout_planner.proofs.CostLemmas.{walked_is, tables_rise_among}
use Rattle.layout_planner.proofs.planning.costs_from.Goals as goal

pub planned_costs-requires : goal.planned_costs-requires
planned_costs-requires g c =
    let es = c.args.graph.now.edges in
    record {
      creates = c.in_ok-creates.ensures;
      rising = subst (λ (l : List ℕ). Rises 0 l) (sym (c.as_slice-3.ensures.value ∙ c.in_ok-tables.ensures)) (tables_rise_among es c.requires.graph.edges (is_walked c.as_slice.result.now));
    }

pub returns : goal.returns
returns g c =
    let d = c.args.graph.now in
    let steps : c.as_slice-2.result.now ≡ map step_told (walk (forest d.edges) c.args.set) = c.as_slice-2.ensures ∙ c.in_ok-steps.ensures in
    let same : c.as_slice.result.now ≡ c.as_slice-2.result.now = c.as_slice.ensures ∙ sym c.as_slice-2.ensures in
    let tables : c.as_slice-3.result.now ≡ tables_of d.edges (is_walked c.as_slice-2.result.now) = c.as_slice-3.ensures.value ∙ c.in_ok-tables.ensures ∙ ap (λ (s : List Step). tables_of d.edges (is_walked s)) same in
    if_ok_more (λ made. made ≡ walked_costs d c.as_slice-2.result.now c.as_slice-3.result.now c.args.counts.now d.versions) (λ made. made ≡ costs_among d c.args.counts.now (in_tree d.edges c.args.set))
    (λ made is. is ∙ walked_is d c.requires.graph c.args.set c.as_slice-2.result.now c.as_slice-3.result.now c.args.counts.now steps tables) _ c.planned_costs.ensures
