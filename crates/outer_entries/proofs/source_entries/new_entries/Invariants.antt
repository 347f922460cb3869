use Rattle.std.proofs.Common.{◌≡◌, filter, take}
use Rattle.row_store.specs.inner.RowsLeft.{AreLeft, passed}
use Rattle.pair_rows.specs.Shown.{all_pairs}
use Rattle.outer_law.specs.Entries.{with_absent}
use Rattle.outer_entries.specs.inner.Calls.{is_new_in}
use Rattle.outer_entries.proofs.source_entries.new_entries.Given as goal

abbrev pub invariant-loop-row : goal.invariant-loop-row
invariant-loop-row l = record {
  left : AreLeft l.it.new_s.now.rows l.row-iterator;
  made : l.made ≡ filter (is_new_in l.it) (all_pairs (with_absent l.it.join.now.first.now (take (passed l.it.new_s.now.rows l.row-iterator) l.it.new_s.now.rows)) (with_absent l.it.join.now.second.now l.it.new_t.now.rows));
}
