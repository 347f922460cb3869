use Rattle.std.proofs.Common.{take}
use Rattle.row_store.specs.inner.RowsLeft.{AreLeft, passed}
use Rattle.op_cond_join.specs.Joinings.{joining}
use Rattle.id_closing.specs.Found.{AreAmong}
use Rattle.cond_closing.proofs.RowLemmas.{EachRow, ListsMet}
use Rattle.cond_closing.proofs.by_rows.add_all_met.Given as goal

abbrev pub invariant-loop-other : goal.invariant-loop-other
invariant-loop-other g l = record {
  left : AreLeft l.others.rows l.other-iterator;
  met : EachRow (ListsMet (joining l.it.join.now) l.it.half l.it.row.now l.ids) (take (passed l.others.rows l.other-iterator) l.others.rows);
  stay : AreAmong l.fn.ids l.ids;
}
