use Rattle.std.proofs.Common.{length, ap, arith}
use Rattle.std.proofs.lemmas.List.{length-map}
use Rattle.row_store.specs.States.{TableState}
use Rattle.op_law.specs.Tables.{contents}
use Rattle.row_changes.proofs.ChangedLaws.{changed_many}
use Rattle.changes_walk.proofs.whole.changed_near.Goals as goal

pub new-requires : goal.new-requires
new-requires c =
    let own = length-map c.in_ok-tables.tables (λ (t : TableState). t.rows) in
    let near = length-map c.tables.result.now (λ (t : TableState). t.rows) in
    let made = ap length c.in_ok-tables.ensures in
    let many = changed_many (contents c.tables.result.now) c.as_slice.result.now in
    omega (arith, own, near, made, many, c.tables.ensures.few)
