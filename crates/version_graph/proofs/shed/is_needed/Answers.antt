use Rattle.version_graph.specs.Edges.{is_in, version_sets}
use Rattle.version_graph.proofs.ShedLemmas.{by_parent, by_name}
use Rattle.version_graph.proofs.shed.is_needed.Goals as goal

pub returns-then-is_parent : goal.returns-then-is_parent
returns-then-is_parent g c =
    let sets = version_sets c.args.versions.now.entries in
    by_parent c.args.above.now sets c.args.set c.is_parent.result (is_in c.args.set sets) c.is_parent.ensures Rattle.std.proofs.Common.refl c.if-is_parent.true

pub returns-else-is_parent : goal.returns-else-is_parent
returns-else-is_parent g c = by_name c.args.above.now (version_sets c.args.versions.now.entries) c.args.set c.is_parent.result c.has_set.result c.is_parent.ensures c.has_set.ensures c.if-is_parent.false
