use Rattle.std.proofs.Common.{ltb, rules}
use Rattle.std.proofs.lemmas.List.Sorted.{IsPartitionPoint-from_clause, IsPartitionedBy-ltb}
use Rattle.version_graph.proofs.MarkLemmas.{place_behind, rising_marks}
use Rattle.version_graph.specs.declared.node.Node.{Node}
use Rattle.version_graph.proofs.look.place_behind.Goals as goal

pub returns : goal.returns
returns g c =
    let nodes = c.args.nodes.now in
    let parted = IsPartitionedBy-ltb (λ (k : Node _). k.last_before) _ c.args.table (rising_marks nodes c.requires.0 c.requires.1) in
    let point = IsPartitionPoint-from_clause (λ (k : Node _). ltb k.last_before c.args.table) _ _ c.partition_point.ensures.partitioned parted (λ a r q k. search rules) in
    place_behind nodes c.args.table c.partition_point.result c.partition_point.ensures.bound point.0 point.1
