use Rattle.std.proofs.Common.{subst}
use Rattle.row_store.specs.Rows.{Rows, RiseFrom}
use Rattle.op_rows.proofs.MergeLemmas.{rise_rest, merge_more}
use Rattle.op_rows.proofs.ids.merge_ids.Goals as goal

pub loop-row-preserved : goal.loop-row-preserved
loop-row-preserved c =
    let inv = c.loop-row.invariant in
    let row = c.in-Some.row.now in
    let left = c.next.new.self in
    record {
      from = c.in_ok-from.ensures.0;
      rise = rise_rest row left (subst (λ (t : Rows). RiseFrom 0 t) c.in-Some.ensures.steps inv.rise);
      so_far = merge_more c.args.ids.now c.loop-row.all c.add_row.new.all c.loop-row.row-iterator c.args.table.now.rows left row c.loop-row.from c.in_ok-from.from c.in-Some.ensures.steps inv.rise c.in_ok-from.ensures inv.so_far;
    }
