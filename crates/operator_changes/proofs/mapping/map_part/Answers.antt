use Rattle.std.proofs.Common.{length, ap, arith}
use Rattle.op_law.specs.Tables.{contents}
use Rattle.row_changes.proofs.ChangedLaws.{changed_many}
use Rattle.operator_changes.proofs.LoopLemmas.{contents_long}
use Rattle.operator_changes.proofs.mapping.map_part.Goals as goal

pub new-new-requires : goal.new-new-requires
new-new-requires g c =
    let own = contents_long c.in_ok-tables.tables in
    let near = contents_long c.tables.result.now in
    let made = ap length c.in_ok-tables.ensures in
    let many = changed_many (contents c.tables.result.now) c.as_slice.result.now in
    omega (arith, own, near, made, many, c.tables.ensures.few)
