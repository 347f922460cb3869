-- The tables of a version live.
use Rattle.std.proofs.Common.{rules}
use Rattle.version_graph.specs.Edges.{set_named}
use Rattle.version_notes.proofs.ListLemmas.{version_within}
use Rattle.version_notes.proofs.first.first_of.Goals as goal

pub first_tables-requires : goal.first_tables-requires
first_tables-requires g c =
    let graph = c.args.database.now.graph in
    version_within graph.edges (set_named graph.versions c.args.version.now) c.in-Some.numbers.now (search rules)
