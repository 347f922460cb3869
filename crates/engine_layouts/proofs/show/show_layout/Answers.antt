use Rattle.std.proofs.Common.{ap, ◌∙◌}
use Rattle.engine_layouts.proofs.ShowLemmas.{headings_there, layout_shown}
use Rattle.engine_layouts.proofs.show.show_layout.Goals as goal

pub show_tables-requires : goal.show_tables-requires
show_tables-requires c = headings_there c.args.database.now c.graph-graph.ensures.kept c.graph-graph.result.now c.stored.result.now c.graph-graph.ensures.graph c.stored.ensures

pub returns : goal.returns
returns c =
    layout_shown c.args.database.now c.graph-graph.ensures.kept c.graph-graph.result.now c.stored.result.now c.graph-graph.ensures.graph c.stored.ensures c.as_slice-layout.result.now c.aux.result.now c.in_ok-show_tables.field-0 c.in_ok-show_operators.field-0
    (c.as_slice-layout.ensures ∙ ap (λ l. l.operators) c.layout.ensures) c.aux.ensures c.in_ok-show_tables.ensures c.in_ok-show_operators.ensures
