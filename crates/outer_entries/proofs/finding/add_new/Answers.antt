use Rattle.std.proofs.Common.{◌∙◌, ℕ, filter, take, sym, subst}
use Rattle.row_store.specs.Rows.{Rows}
use Rattle.row_store.specs.inner.RowsLeft.{all_left, comes, none_passed, passed, take_passed}
use Rattle.pair_rows.specs.Shown.{all_pairs}
use Rattle.pair_rows.proofs.ChangedLemmas.{row_there}
use Rattle.outer_entries.specs.inner.Calls.{is_new_full}
use Rattle.outer_entries.specs.inner.Finding.{AddsPairs}
use Rattle.outer_entries.proofs.FindingLemmas.{adds_none, all_next}
use Rattle.outer_entries.proofs.finding.add_new.Goals as goal

pub loop-row-init : goal.loop-row-init
loop-row-init g c =
    let it = c.args.it.now in
    let rows = it.new_s.now.rows in
    let same = c.into_iter-row-iterator.ensures.into_iter_gives ∙ c.iter-row-items.ensures.all in
    record {
      left = all_left rows c.into_iter-row-iterator.result same;
      found = subst (λ (n : ℕ). AddsPairs c.args.found.now (filter (is_new_full it) (all_pairs (take n rows) it.new_t.now.rows)) c.args.found.now) (sym (none_passed rows c.into_iter-row-iterator.result same)) (adds_none c.args.found.now);
    }

pub add_with-requires-clause-there : goal.add_with-requires-clause-there
add_with-requires-clause-there g c =
    let rows = c.args.it.now.new_s.now.rows in
    let come = comes rows c.loop-row.row-iterator c.in-Some.row.now c.next.new.self c.loop-row.invariant.left c.in-Some.ensures.steps in
    row_there rows (passed rows c.loop-row.row-iterator) c.in-Some.row.now come.within come.is c.iter-row-items.ensures.rise

pub loop-row-preserved : goal.loop-row-preserved
loop-row-preserved g c =
    let it = c.args.it.now in
    let rows = it.new_s.now.rows in
    let come = comes rows c.loop-row.row-iterator c.in-Some.row.now c.next.new.self c.loop-row.invariant.left c.in-Some.ensures.steps in
    record {
      left = come.rest;
      found = subst (λ (n : ℕ). AddsPairs c.args.found.now (filter (is_new_full it) (all_pairs (take n rows) it.new_t.now.rows)) c.add_with.new.found) (sym come.next)
          (all_next (is_new_full it) rows it.new_t.now.rows (passed rows c.loop-row.row-iterator) c.in-Some.row.now c.args.found.now c.loop-row.found c.add_with.new.found come.within come.is c.loop-row.invariant.found c.in_ok-add_with.ensures);
    }

pub returns : goal.returns
returns g c =
    let it = c.args.it.now in
    subst (λ (rows : Rows). AddsPairs c.args.found.now (filter (is_new_full it) (all_pairs rows it.new_t.now.rows)) c.loop-row.found) (take_passed it.new_s.now.rows c.loop-row.row-iterator c.in-None.ensures.steps.0) c.loop-row.invariant.found
