use Rattle.std.proofs.Common.{ℕ, ap, sym, take, ◌∙◌}
use Rattle.row_store.specs.inner.RowsLeft.{all_left, comes, none_passed, passed, take_passed}
use Rattle.pair_rows.specs.inner.Changed.{changed_in}
use Rattle.pair_rows.proofs.ChangedLemmas.{changed_more}
use Rattle.pair_rows.proofs.changed.changed_ids.Goals as goal

pub loop-row-init : goal.loop-row-init
loop-row-init c =
    let rows = c.args.new.now.rows in
    let same = c.into_iter-row-iterator.ensures.into_iter_gives ∙ c.iter-row-items.ensures.all in
    record {
      left = all_left rows c.into_iter-row-iterator.result same;
      ids = c.new-ids.ensures ∙ ap (λ (n : ℕ). changed_in c.args.old.now.rows (take n rows)) (sym (none_passed rows c.into_iter-row-iterator.result same));
    }

pub loop-row-preserved : goal.loop-row-preserved
loop-row-preserved c =
    let rows = c.args.new.now.rows in
    let come = comes rows c.loop-row.row-iterator c.in-Some.row.now c.next.new.self c.loop-row.invariant.left c.in-Some.ensures.steps in
    record {
      left = come.rest;
      ids = changed_more c.args.old.now.rows rows (passed rows c.loop-row.row-iterator) c.in-Some.row.now c.loop-row.ids c.push_if_changed.new.ids come.within come.is c.loop-row.invariant.ids c.in_ok-push_if_changed.ensures
          ∙ ap (λ (n : ℕ). changed_in c.args.old.now.rows (take n rows)) (sym come.next);
    }

pub returns : goal.returns
returns c = c.loop-row.invariant.ids ∙ ap (changed_in c.args.old.now.rows) (take_passed c.args.new.now.rows c.loop-row.row-iterator c.in-None.ensures.steps.0)
