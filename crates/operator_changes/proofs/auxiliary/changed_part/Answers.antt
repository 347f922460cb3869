use Rattle.std.proofs.Common.{length, ap, arith}
use Rattle.op_law.specs.Tables.{contents}
use Rattle.row_changes.proofs.ChangedLaws.{changed_many}
use Rattle.operator_changes.proofs.LoopLemmas.{contents_long}
use Rattle.operator_changes.proofs.auxiliary.changed_part.Goals as goal

pub new-one-requires : goal.new-one-requires
new-one-requires c =
    let own = contents_long c.in_ok-new_near.new_near in
    let near = contents_long c.tables.result.now in
    let made = ap length c.in_ok-new_near.ensures in
    let many = changed_many (contents c.tables.result.now) c.as_slice.result.now in
    omega (arith, own, near, made, many, c.tables.ensures.few)

pub new-other-requires : goal.new-other-requires
new-other-requires c =
    let own = contents_long c.in_ok-new_far.new_far in
    let near = contents_long c.tables-2.result.now in
    let made = ap length c.in_ok-new_far.ensures in
    let many = changed_many (contents c.tables-2.result.now) c.as_slice-2.result.now in
    omega (arith, own, near, made, many, c.tables-2.ensures.few)
