use Rattle.std.proofs.Common.{ℕ, sym, ap, ◌∙◌}
use Rattle.std.specs.Prelude.{option_map}
use Rattle.version_graph.specs.Tables.{table_numbers}
use Rattle.version_graph.specs.Edges.{working}
use Rattle.version_graph.specs.Kept.{edges_of}
use Rattle.version_graph.proofs.NodeLaws.{version_tables}
use Rattle.version_graph.proofs.look.version_tables.Goals as goal

pub returns-in-Some : goal.returns-in-Some
returns-in-Some g c =
    let es = edges_of c.args.nodes.now in
    c.tables_at.ensures ∙ version_tables es c.args.versions.now.entries c.args.name.now c.in-Some.set c.requires.edges c.requires.named (sym c.in-Some.ensures)
    ∙ ap (option_map (λ (w : ℕ). table_numbers (working es w))) c.in-Some.ensures
