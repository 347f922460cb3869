use Rattle.std.proofs.Common.{ℕ, ◌<◌, ◌∷◌, [], ◌++◌, Option, List, take, ap, sym, ◌∙◌, subst}
use Rattle.par_base.specs.declared.value.Value.{Value}
use Rattle.row_store.specs.Rows.{row_of}
use Rattle.op_law.specs.Meaning.{PairState}
use Rattle.op_rows.specs.Cells.{Cells, cells_at}
use Rattle.operator_changes.specs.Pairs.{side_at, table_at}
use Rattle.cell_changes.proofs.ReadingLemmas.{cells_next}
use Rattle.cell_changes.proofs.reading.cells_before.Goals as goal

pub loop-which-preserved : goal.loop-which-preserved
loop-which-preserved g c =
    let i = c.loop-which.which in
    let id = c.args.id in
    let ts = side_at c.args.target (g.V.PairRead.pair c.args.old.now) in
    let before = c.loop-which.invariant in
    record {
      cells = c.in_ok-cells.ensures ∙ ap (λ (cs : Cells). cs ++ c.in_ok-row.field-0 ∷ []) before.cells
          ∙ ap (λ (row : Option (List Value)). cells_at (take i ts) id ++ row ∷ []) (c.in_ok-row.ensures.value ∙ ap (λ (p : PairState). row_of (table_at (side_at c.args.target p) i) id) before.same)
          ∙ sym (cells_next ts id i (subst (λ (k : ℕ). i < k) c.tables-count.ensures.many c.loop-which-test.true));
      same = c.in_ok-row.ensures.same ∙ before.same;
    }
