use Rattle.std.proofs.Common.{length, ap, subst, arith}
use Rattle.row_store.specs.Rows.{Rows, RiseFrom}
use Rattle.op_rows.proofs.MergeLemmas.{rise_rest, listed_more}
use Rattle.op_rows.proofs.ids.ids_of.Goals as goal

pub loop-row-preserved : goal.loop-row-preserved
loop-row-preserved c =
    let inv = c.loop-row.invariant in
    let row = c.in-Some.row.now in
    let left = c.next.new.self in
    let step = c.in-Some.ensures.steps in
    let put = c.push_reserved.ensures in
    record {
      rise = rise_rest row left (subst (λ (t : Rows). RiseFrom 0 t) step inv.rise);
      so_far = listed_more c.loop-row.ids.items c.push_reserved.new.self.items c.loop-row.row-iterator c.args.table.now.rows left row step inv.rise put.items inv.so_far;
      room = omega (arith, inv.room, put.len, put.capacity, ap length step);
    }
