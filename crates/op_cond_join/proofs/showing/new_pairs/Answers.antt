use Rattle.std.proofs.Common.{ℕ, filter, take, ap, sym, ◌∙◌}
use Rattle.row_store.specs.Rows.{Rows}
use Rattle.row_store.specs.inner.RowsLeft.{all_left, comes, none_passed, passed, take_passed}
use Rattle.pair_rows.specs.Shown.{all_pairs}
use Rattle.op_cond_join.specs.inner.Calls.{is_new_in}
use Rattle.pair_rows.proofs.ShowingLemmas.{all_more}
use Rattle.pair_rows.proofs.ChangedLemmas.{row_there}
use Rattle.op_cond_join.proofs.showing.new_pairs.Goals as goal

pub loop-row-init : goal.loop-row-init
loop-row-init g c =
    let rows = c.args.it.now.new_s.now.rows in
    let same = c.into_iter-row-iterator.ensures.into_iter_gives ∙ c.iter-row-items.ensures.all in
    record {
      left = all_left rows c.into_iter-row-iterator.result same;
      made = c.new-made.ensures ∙ ap (λ (n : ℕ). filter (is_new_in c.args.it.now) (all_pairs (take n rows) c.args.it.now.new_t.now.rows)) (sym (none_passed rows c.into_iter-row-iterator.result same));
    }

pub add_pairs_of-requires-clause-there : goal.add_pairs_of-requires-clause-there
add_pairs_of-requires-clause-there g c =
    let rows = c.args.it.now.new_s.now.rows in
    let come = comes rows c.loop-row.row-iterator c.in-Some.row.now c.next.new.self c.loop-row.invariant.left c.in-Some.ensures.steps in
    row_there rows (passed rows c.loop-row.row-iterator) c.in-Some.row.now come.within come.is c.iter-row-items.ensures.rise

pub loop-row-preserved : goal.loop-row-preserved
loop-row-preserved g c =
    let rows = c.args.it.now.new_s.now.rows in
    let come = comes rows c.loop-row.row-iterator c.in-Some.row.now c.next.new.self c.loop-row.invariant.left c.in-Some.ensures.steps in
    record {
      left = come.rest;
      made = all_more (is_new_in c.args.it.now) rows c.args.it.now.new_t.now.rows (passed rows c.loop-row.row-iterator) c.in-Some.row.now c.loop-row.made c.add_pairs_of.new.made
          come.within come.is c.loop-row.invariant.made c.in_ok-add_pairs_of.ensures
          ∙ ap (λ (n : ℕ). filter (is_new_in c.args.it.now) (all_pairs (take n rows) c.args.it.now.new_t.now.rows)) (sym come.next);
    }

pub returns : goal.returns
returns g c =
    c.loop-row.invariant.made
    ∙ ap (λ (rows : Rows). filter (is_new_in c.args.it.now) (all_pairs rows c.args.it.now.new_t.now.rows)) (take_passed c.args.it.now.new_s.now.rows c.loop-row.row-iterator c.in-None.ensures.steps.0)
