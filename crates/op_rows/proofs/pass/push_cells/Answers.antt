use Rattle.std.proofs.Common.{refl, sym, ap, ◌∙◌}
use Rattle.op_law.specs.Tables.{contents}
use Rattle.op_rows.specs.Cells.{Cells}
use Rattle.op_rows.specs.inner.Passes.{with_cells}
use Rattle.op_rows.proofs.PassLemmas.{with_no_cells, below_at}
use Rattle.op_rows.proofs.pass.push_cells.Goals as goal

pub loop-cell-init : goal.loop-cell-init
loop-cell-init c = record {
  below = λ k _ d h. below_at c.args.tables.now c.args.id k d c.requires h;
  same = refl;
}

pub returns : goal.returns
returns c =
    sym (with_no_cells (contents c.loop-cell.tables) c.args.id) ∙ ap (λ (cells : Cells). with_cells (contents c.loop-cell.tables) c.args.id cells) (sym c.in_default.ensures.0) ∙ c.loop-cell.invariant.same
