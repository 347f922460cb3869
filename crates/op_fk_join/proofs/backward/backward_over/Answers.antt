use Rattle.std.proofs.Common.{ap, subst}
use Rattle.row_store.specs.Rows.{Rows}
use Rattle.op_law.specs.Calls.{IsMapped}
use Rattle.op_fk_join.specs.Join.{source_from}
use Rattle.op_fk_join.proofs.backward.backward_over.Goals as goal

pub returns : goal.returns
returns g c =
    subst (λ (s : Rows). IsMapped (source_from (g.P.RowParts.parts c.args.parts.now) s c.args.t.now.rows c.args.near.now.rows c.args.ids.now.next) c.args.ids.now c.backward_from.new.ids c.backward_from.result)
    (ap (λ old. old.s) c.in_ok-old.ensures) c.backward_from.ensures
