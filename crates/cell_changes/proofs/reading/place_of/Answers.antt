use Rattle.std.proofs.Common.{ltb, rules}
use Rattle.std.proofs.lemmas.List.Sorted.{IsPartitionPoint-from_clause, IsPartitionedBy-ltb}
use Rattle.row_store.specs.declared.change.Change.{Change}
use Rattle.cell_changes.proofs.PlaceLemmas.{place_is, rising}
use Rattle.cell_changes.proofs.reading.place_of.Goals as goal

pub returns : goal.returns
returns c =
    let cs = c.args.changes.now in
    let parted = IsPartitionedBy-ltb (λ (k : Change). k.id) _ c.args.id (rising 0 cs c.requires) in
    let point = IsPartitionPoint-from_clause (λ (k : Change). ltb k.id c.args.id) _ _ c.partition_point.ensures.partitioned parted (λ a r q k. search rules) in
    place_is 0 cs c.args.id c.partition_point.result c.requires c.partition_point.ensures.bound point.0 point.1
