use Rattle.std.proofs.Common.{List, [], ◌++◌, Option, get_or, take, ap, sym, ◌∙◌, subst}
use Rattle.par_base.specs.declared.value.Value.{Value}
use Rattle.row_store.specs.Rows.{Rows, AreBelow, row_of}
use Rattle.op_law.specs.Meaning.{PairState}
use Rattle.op_rows.specs.Cells.{with_row, table_from}
use Rattle.operator_changes.specs.Pairs.{side_at, table_at}
use Rattle.operator_changes.proofs.LoopLemmas.{table_below, table_next}
use Rattle.operator_changes.proofs.part.read_table.Goals as goal

pub push_cell-requires : goal.push_cell-requires
push_cell-requires g c =
    let i = c.loop-id.id-index in
    subst (λ (rows : Rows). AreBelow rows (get_or c.args.ids.now i 0)) (sym c.loop-id.invariant.rows)
    (table_below 0 c.args.ids.now i 0 (row_of (table_at (side_at c.args.target (g.V.PairRead.pair c.args.old.now)) c.args.which)) c.requires c.loop-id-test.true)

pub loop-id-preserved : goal.loop-id-preserved
loop-id-preserved g c =
    let i = c.loop-id.id-index in
    let id = get_or c.args.ids.now i 0 in
    let f = row_of (table_at (side_at c.args.target (g.V.PairRead.pair c.args.old.now)) c.args.which) in
    let before = c.loop-id.invariant in
    record {
      rows = c.in_ok-push_cell.ensures ∙ ap (λ (rows : Rows). rows ++ with_row id c.in_ok-cell.cell []) before.rows
          ∙ ap (λ (cell : Option (List Value)). table_from (take i c.args.ids.now) f ++ with_row id cell []) (c.in_ok-cell.ensures.value ∙ ap (λ (p : PairState). row_of (table_at (side_at c.args.target p) c.args.which) id) before.same)
          ∙ sym (table_next c.args.ids.now i 0 f c.loop-id-test.true);
      same = c.in_ok-cell.ensures.same ∙ before.same;
    }
