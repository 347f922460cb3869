use Rattle.std.proofs.Common.{sym, ap, ◌∙◌, subst}
use Rattle.version_graph.specs.Dropped.{dropped}
use Rattle.version_graph.specs.Edges.{Drawn}
use Rattle.layout_rules.specs.Changes.{dropped_layout}
use Rattle.layout_rules.specs.declared.layout.Layout.{Layout}
use Rattle.version_model.specs.Databases.{dropped_database}
use Rattle.version_model.specs.Kept.{Database}
use Rattle.storage_law.specs.Changes.{GoFromSources}
use Rattle.migration.proofs.dropping.drop_db.Goals as goal

pub cut-requires-clause-aside : goal.cut-requires-clause-aside
cut-requires-clause-aside g c =
    let name = c.args.name.now in
    let moved = c.in_ok-moved.moved in
    let there = subst (λ (d : Drawn _). GoFromSources d.edges (dropped d name).edges moved.layout.operators) (sym c.adopt.ensures.graph) c.in_ok-moved.ensures.2 in
    subst (λ (l : Layout). GoFromSources c.adopt.new.db.graph.edges (dropped c.adopt.new.db.graph name).edges l.operators) (sym c.adopt.ensures.layout) there

pub returns : goal.returns
returns g c =
    let name = c.args.name.now in (
      c.in_ok-moved.ensures.0,
      c.cut.ensures.database ∙ ap (λ (d : Database _). dropped_database d name) (c.in_ok-moved.ensures.1 c.adopt.new.db c.adopt.ensures).1,
      c.cut.ensures.layout ∙ (λ j. dropped_layout (c.adopt.ensures.graph j) name (c.adopt.ensures.layout j).operators) ∙ c.in_ok-moved.ensures.3,
    )
