use Rattle.std.proofs.Common.{List, ◌++◌, sym, ap, ◌∙◌}
use Rattle.std.specs.Prelude.{Option, option_to_list, filter_map}
use Rattle.std.proofs.lemmas.List.{take_all}
use Rattle.version_graph.specs.Edges.{heading_of}
use Rattle.version_graph.specs.Kept.{edges_of}
use Rattle.version_graph.specs.declared.parts.Heading.{Heading}
use Rattle.version_graph.proofs.TakenLaws.{headings_more, headings_found}
use Rattle.version_graph.proofs.look.headings.Goals as goal

pub loop-table-preserved : goal.loop-table-preserved
loop-table-preserved g c =
    let es = edges_of c.args.nodes.now in
    let ts = c.tables_of_set-tables.result.now in
    let i = c.loop-table.table-index in
    c.in_ok-push_heading.ensures
    ∙ ap (λ (o : Option Heading). c.loop-table.made ++ option_to_list o) c.heading_of.ensures
    ∙ ap (λ (l : List Heading). l ++ option_to_list (heading_of es (Rattle.std.specs.Prelude.slice_index ts i))) c.loop-table.invariant
    ∙ sym (headings_more es ts i c.loop-table-test.true)

pub returns : goal.returns
returns g c =
    let es = edges_of c.args.nodes.now in
    let ts = c.tables_of_set-tables.result.now in
    c.loop-table.invariant ∙ ap (filter_map (heading_of es)) (take_all c.loop-table.table-index ts c.loop-table-test.false)
    ∙ headings_found es ts c.args.set c.requires.edges c.tables_of_set-tables.ensures
