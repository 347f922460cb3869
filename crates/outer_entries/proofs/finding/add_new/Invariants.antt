use Rattle.std.proofs.Common.{filter, take}
use Rattle.row_store.specs.inner.RowsLeft.{AreLeft, passed}
use Rattle.pair_rows.specs.Shown.{all_pairs}
use Rattle.outer_entries.specs.inner.Calls.{is_new_full}
use Rattle.outer_entries.specs.inner.Finding.{AddsPairs}
use Rattle.outer_entries.proofs.finding.add_new.Given as goal

abbrev pub invariant-loop-row : goal.invariant-loop-row
invariant-loop-row g l = record {
  left : AreLeft l.it.new_s.now.rows l.row-iterator;
  found : AddsPairs l.fn.found (filter (is_new_full l.it) (all_pairs (take (passed l.it.new_s.now.rows l.row-iterator) l.it.new_s.now.rows) l.it.new_t.now.rows)) l.found;
}
