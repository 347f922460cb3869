use Rattle.std.proofs.Common.{ℕ, List, get_or, ap, sym, ◌∙◌, subst}
use Rattle.row_store.specs.Rows.{RiseFrom}
use Rattle.row_store.specs.States.{TableState}
use Rattle.op_law.specs.Identifiers.{ids_in}
use Rattle.op_rows.specs.inner.CellLemmas.{IdsRise, rise_in}
use Rattle.op_rows.proofs.PassLemmas.{ids_next, rise_next}
use Rattle.op_rows.proofs.ids.add_ids.Goals as goal

pub loop-table-preserved : goal.loop-table-preserved
loop-table-preserved c =
    let before = c.loop-table.invariant in
    let i = c.loop-table.table-index in
    let table = c.table-item.result in
    let merged = c.in_ok-all.ensures in
    let own : RiseFrom 0 (get_or c.args.tables.now i table).rows = subst (λ (t : TableState). RiseFrom 0 t.rows) c.table-item.is merged.rise in
    record {
      rise = subst (IdsRise 0) (sym merged.value) (rise_in 0 table.rows c.loop-table.all merged.rise before.rise);
      so_far = merged.value ∙ ap (λ (t : TableState). ids_in t.rows c.loop-table.all) c.table-item.is
          ∙ ap (λ (ids : List ℕ). ids_in (get_or c.args.tables.now i table).rows ids) before.so_far
          ∙ sym (ids_next c.args.tables.now i table c.args.ids c.loop-table-test.true);
      tables = rise_next c.args.tables.now i table c.loop-table-test.true before.tables own;
    }
