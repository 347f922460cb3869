use Rattle.std.proofs.Common.{◌≡◌, drop, length}
use Rattle.row_store.specs.inner.RowsLeft.{AreFirst}
use Rattle.foreign_keys.specs.Seeking.{goals_in}
use Rattle.foreign_keys.proofs.leads.goals_of.Given as goal

abbrev pub invariant-loop-row : goal.invariant-loop-row
invariant-loop-row g l = record {
  first : AreFirst l.table.rows l.row-iterator.iter;
  value : l.ids ≡ goals_in (g.L.Leads.goal l.each) (drop (length l.row-iterator.iter) l.table.rows);
}
