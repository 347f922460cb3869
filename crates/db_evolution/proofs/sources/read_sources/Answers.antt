use Rattle.std.proofs.Common.{subst}
use Rattle.version_graph.specs.Sets.{Each, In}
use Rattle.version_graph.specs.Tables.{table_numbers}
use Rattle.version_graph.specs.Edges.{Drawn, made, set_named}
use Rattle.db_evolution.proofs.SourceLemmas.{version_live}
use Rattle.db_evolution.proofs.sources.read_sources.Goals as goal

pub read_named-requires : goal.read_named-requires
read_named-requires g c =
    let ts = c.in-Some-tables_of.tables.now in
    let graph = c.graph.result.now in
    subst (λ (x : Drawn _). Each (λ t. In t (table_numbers (made x.edges))) ts) c.graph.ensures.graph
    (version_live graph.edges (set_named graph.versions c.in-Some.name.now) ts c.in-Some-tables_of.ensures)
