use Rattle.std.proofs.Common.{ltb, rules}
use Rattle.std.proofs.lemmas.List.Sorted.{IsPartitionPoint-from_clause, IsPartitionedBy-ltb}
use Rattle.version_graph.proofs.HalvingLemmas.{place_for, rising_nodes}
use Rattle.version_graph.specs.declared.node.Node.{Node}
use Rattle.version_graph.proofs.look.place_of.Goals as goal

pub returns : goal.returns
returns g c =
    let parted = IsPartitionedBy-ltb (λ (k : Node _). k.placed.number) _ c.args.number (rising_nodes c.args.nodes.now c.requires) in
    let point = IsPartitionPoint-from_clause (λ (k : Node _). ltb k.placed.number c.args.number) _ _ c.partition_point.ensures.partitioned parted (λ a r q k. search rules) in
    place_for c.args.nodes.now c.args.number c.partition_point.result c.partition_point.ensures.bound point.0 point.1
