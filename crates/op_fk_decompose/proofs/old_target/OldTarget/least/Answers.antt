use Rattle.std.proofs.Common.{ap, ◌∙◌}
use Rattle.row_store.specs.Rows.{Rows}
use Rattle.key_index.specs.Found.{first_with}
use Rattle.foreign_keys.specs.inner.LeastLaws.{first_meant}
use Rattle.op_fk_decompose.specs.Decompose.{may_share}
use Rattle.op_fk_decompose.proofs.old_target.OldTarget.least.Goals as goal

pub returns : goal.returns
returns g c =
    let rows = c.self.inside.rows in
    let v = c.args.value.now in
    rw (← c.self.view_is) (c.least_with.ensures.first ∙ ap (first_with c.self.inside.shared.rows) c.as_slice.ensures ∙ ap (λ (keys : Rows). first_with keys v) c.self.invariant
    ∙ first_meant (may_share (g.P.RowParts.parts rows.by) rows.s rows.t) rows.t v)
