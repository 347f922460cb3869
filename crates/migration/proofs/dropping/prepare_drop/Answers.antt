use Rattle.std.proofs.Common.{ℕ, List, filter, sym, ap, ◌∙◌, subst}
use Rattle.std.specs.Option.{IsSome}
use Rattle.version_graph.specs.Dropped.{doomed, other_versions, staying}
use Rattle.version_graph.specs.Edges.{Drawn, Rises, is_in, numbers, set_named, version_sets}
use Rattle.version_graph.specs.Forest.{forest}
use Rattle.layout_rules.specs.declared.layout.Layout.{Layout}
use Rattle.layout_rules.specs.Layouts.{IsValid}
use Rattle.layout_rules.proofs.PassLaws.{rises_filter}
use Rattle.storage_law.specs.Changes.{GoFromSources}
use Rattle.migration.specs.Sides.{keeps_side}
use Rattle.migration.proofs.LeaveLemmas.{leaving_is, leaving_right, same_left}
use Rattle.migration.proofs.dropping.prepare_drop.Goals as goal

pub prepare-requires-clause-valid : goal.prepare-requires-clause-valid
prepare-requires-clause-valid g c =
    let old = c.args.db.now in
    let sets = version_sets (other_versions old.graph.versions c.args.name.now) in
    let base = c.graph-graph.ensures.kept in
    let is = leaving_is c.graph-graph.result.now old.graph c.args.name.now c.as_slice.result.now c.as_slice-layout.result.now old.layout.operators c.in_ok-operators.operators c.graph-graph.ensures.graph (c.as_slice.ensures ∙ c.in_ok-gone.ensures.1) (c.as_slice-layout.ensures ∙ ap (λ (l : Layout). l.operators) c.layout.ensures) c.in_ok-operators.ensures in
    subst (λ (l : List ℕ). IsValid (forest old.graph.edges) l) (sym is) (leaving_right old.graph.edges sets base.graph.edges old.layout.operators base.valid).0

pub prepare-requires-clause-ascending : goal.prepare-requires-clause-ascending
prepare-requires-clause-ascending g c =
    let old = c.args.db.now in
    let sets = version_sets (other_versions old.graph.versions c.args.name.now) in
    let base = c.graph-graph.ensures.kept in
    let is = leaving_is c.graph-graph.result.now old.graph c.args.name.now c.as_slice.result.now c.as_slice-layout.result.now old.layout.operators c.in_ok-operators.operators c.graph-graph.ensures.graph (c.as_slice.ensures ∙ c.in_ok-gone.ensures.1) (c.as_slice-layout.ensures ∙ ap (λ (l : Layout). l.operators) c.layout.ensures) c.in_ok-operators.ensures in
    subst (λ (l : List ℕ). Rises 0 l) (sym is) (rises_filter (keeps_side old.graph.edges (doomed sets old.graph.edges)) 0 old.layout.operators base.ascending)

pub returns : goal.returns
returns g c =
    let old = c.args.db.now in
    let name = c.args.name.now in
    let sets = version_sets (other_versions old.graph.versions name) in
    let base = c.graph-graph.ensures.kept in
    let is = leaving_is c.graph-graph.result.now old.graph name c.as_slice.result.now c.as_slice-layout.result.now old.layout.operators c.in_ok-operators.operators c.graph-graph.ensures.graph (c.as_slice.ensures ∙ c.in_ok-gone.ensures.1) (c.as_slice-layout.ensures ∙ ap (λ (l : Layout). l.operators) c.layout.ensures) c.in_ok-operators.ensures in
    let there = ap (λ (l : Layout). l.operators) c.in_ok-prepare.ensures.layout ∙ is in (
      subst (λ (d : Drawn _). IsSome (set_named d.versions name)) c.graph-graph.ensures.graph c.in_ok-gone.ensures.0,
      c.in_ok-prepare.ensures.leads,
      subst (λ (l : List ℕ). GoFromSources old.graph.edges (staying sets old.graph.edges) l) (sym there) (leaving_right old.graph.edges sets base.graph.edges old.layout.operators base.valid).1,
      ap (filter (λ n. is_in n (numbers (staying sets old.graph.edges)))) there ∙ same_left old.graph.edges sets base.graph.edges old.layout.operators,
    )
