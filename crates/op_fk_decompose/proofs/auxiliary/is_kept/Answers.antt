use Rattle.std.proofs.Common.{◌≡◌, ℕ, List, sym, ap, ◌∙◌}
use Rattle.op_rows.specs.Cells.{table_from}
use Rattle.op_fk_decompose.specs.Decompose.{kept_at, kept_rows}
use Rattle.op_fk_decompose.proofs.auxiliary.is_kept.Goals as goal

pub returns : goal.returns
returns g c =
    let k = g.P.RowParts.parts c.args.target.now.by in
    let t = c.args.target.now in
    let made : table_from c.as_slice.result.now (kept_at k t.s t.t) ≡ kept_rows k t.s t.t = ap (λ (ids : List ℕ). table_from ids (kept_at k t.s t.t)) (c.as_slice.ensures ∙ c.in_ok-ids.ensures.value) in
    (λ is. sym made ∙ c.in_ok-same.ensures.0 is, λ is. c.in_ok-same.ensures.1 (made ∙ is))
