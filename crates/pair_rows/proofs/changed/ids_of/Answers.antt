use Rattle.std.proofs.Common.{ℕ, ap, sym, take, ◌∙◌}
use Rattle.row_store.specs.inner.RowsLeft.{all_left, comes, none_passed, passed, take_passed}
use Rattle.pair_rows.specs.inner.Changed.{ids_of}
use Rattle.pair_rows.proofs.ChangedLemmas.{ids_more}
use Rattle.pair_rows.proofs.changed.ids_of.Goals as goal

pub loop-row-init : goal.loop-row-init
loop-row-init c =
    let rows = c.args.table.now.rows in
    let same = c.into_iter-row-iterator.ensures.into_iter_gives ∙ c.iter-row-items.ensures.all in
    record {
      left = all_left rows c.into_iter-row-iterator.result same;
      ids = c.new-ids.ensures ∙ ap (λ (n : ℕ). ids_of (take n rows)) (sym (none_passed rows c.into_iter-row-iterator.result same));
    }

pub loop-row-preserved : goal.loop-row-preserved
loop-row-preserved c =
    let rows = c.args.table.now.rows in
    let come = comes rows c.loop-row.row-iterator c.in-Some.row.now c.next.new.self c.loop-row.invariant.left c.in-Some.ensures.steps in
    record {
      left = come.rest;
      ids = ids_more rows (passed rows c.loop-row.row-iterator) c.in-Some.row.now c.loop-row.ids c.push.new.self come.within come.is c.loop-row.invariant.ids c.in_ok-push.ensures.ok
          ∙ ap (λ (n : ℕ). ids_of (take n rows)) (sym come.next);
    }

pub returns-clause-all : goal.returns-clause-all
returns-clause-all c = c.loop-row.invariant.ids ∙ ap ids_of (take_passed c.args.table.now.rows c.loop-row.row-iterator c.in-None.ensures.steps.0)
