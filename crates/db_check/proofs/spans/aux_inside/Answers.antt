use Rattle.std.proofs.Common.{ap, subst, ◌∙◌}
use Rattle.row_store.specs.Rows.{RiseFrom}
use Rattle.row_store.specs.States.{TableState}
use Rattle.op_law.specs.Local.{rows_only}
use Rattle.op_law.specs.Tables.{contents}
use Rattle.db_check.specs.inner.Spans.{in_span}
use Rattle.db_check.proofs.SpanLemmas.{contents_taken, rise_taken}
use Rattle.db_check.proofs.spans.aux_inside.Goals as goal

pub loop-table-preserved : goal.loop-table-preserved
loop-table-preserved c = record {
  part = ap contents c.in_ok-push.ensures.ok ∙ contents_taken (in_span c.args.span) c.loop-table.tables c.in_ok-table_inside.field-0 c.as_slice-table-items.result.now c.loop-table.table-index c.table-item.result c.loop-table-test.true c.loop-table.invariant.part
      (c.in_ok-table_inside.ensures.part ∙ ap (λ (t : TableState). rows_only (in_span c.args.span) t.rows) c.table-item.is);
  rise = rise_taken c.as_slice-table-items.result.now c.loop-table.table-index c.table-item.result c.loop-table-test.true c.loop-table.invariant.rise
      (subst (λ (t : TableState). RiseFrom 0 t.rows) c.table-item.is c.in_ok-table_inside.ensures.rise);
}
