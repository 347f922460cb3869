use Rattle.std.proofs.Common.{ℕ, length, filter, take, ap, sym, ◌∙◌}
use Rattle.row_store.specs.inner.RowsLeft.{comes, passed}
use Rattle.row_parts.specs.Places.{nulls}
use Rattle.pair_rows.specs.Shown.{all_pairs}
use Rattle.pair_rows.proofs.ChangedLemmas.{row_there}
use Rattle.outer_law.specs.Entries.{with_absent}
use Rattle.outer_entries.specs.inner.Calls.{is_new_in}
use Rattle.outer_entries.proofs.EntryLemmas.{all_more}
use Rattle.outer_entries.proofs.source_entries.new_entries.Goals as goal

pub add_with-requires-clause-there : goal.add_with-requires-clause-there
add_with-requires-clause-there c =
    let rows = c.args.it.now.new_s.now.rows in
    let come = comes rows c.loop-row.row-iterator c.in-Some.row.now c.next.new.self c.loop-row.invariant.left c.in-Some.ensures.steps in
    row_there rows (passed rows c.loop-row.row-iterator) c.in-Some.row.now come.within come.is c.iter-row-items.ensures.rise

pub loop-row-preserved : goal.loop-row-preserved
loop-row-preserved c =
    let it = c.args.it.now in
    let rows = it.new_s.now.rows in
    let first = it.join.now.first.now in
    let behind = with_absent it.join.now.second.now it.new_t.now.rows in
    let come = comes rows c.loop-row.row-iterator c.in-Some.row.now c.next.new.self c.loop-row.invariant.left c.in-Some.ensures.steps in
    record {
      left = come.rest;
      made = all_more (is_new_in it) (0, nulls (length first)) rows behind (passed rows c.loop-row.row-iterator) c.in-Some.row.now c.loop-row.made c.add_with.new.made come.within come.is c.loop-row.invariant.made c.in_ok-add_with.ensures
          ∙ ap (λ (n : ℕ). filter (is_new_in it) (all_pairs (with_absent first (take n rows)) behind)) (sym come.next);
    }
