use Rattle.std.proofs.Common.{ℕ, ap, sym, subst, take, ◌∙◌}
use Rattle.row_store.specs.Rows.{Rows, AreBelow}
use Rattle.row_store.specs.inner.RowsLeft.{all_left, comes, none_passed, passed, take_passed}
use Rattle.op_law.specs.Local.{rows_only}
use Rattle.db_check.specs.inner.Spans.{in_span}
use Rattle.db_check.proofs.OnlyLemmas.{below_next, only_more}
use Rattle.db_check.proofs.spans.table_inside.Goals as goal

pub loop-row-init : goal.loop-row-init
loop-row-init c =
    let rows = c.args.table.now.rows in
    let same = c.into_iter-row-iterator.ensures.into_iter_gives ∙ c.iter-row-items.ensures.all in
    record {
      left = all_left rows c.into_iter-row-iterator.result same;
      made = c.new-made.ensures ∙ ap (λ (n : ℕ). rows_only (in_span c.args.span) (take n rows)) (sym (none_passed rows c.into_iter-row-iterator.result same));
    }

pub push_inside-requires : goal.push_inside-requires
push_inside-requires c =
    let rows = c.args.table.now.rows in
    let come = comes rows c.loop-row.row-iterator c.in-Some.row.now c.next.new.self c.loop-row.invariant.left c.in-Some.ensures.steps in
    subst (λ (rows : Rows). AreBelow rows c.in-Some.row.now.0) (sym c.loop-row.invariant.made)
    (below_next (in_span c.args.span) rows (passed rows c.loop-row.row-iterator) c.in-Some.row.now come.within come.is c.iter-row-items.ensures.rise)

pub loop-row-preserved : goal.loop-row-preserved
loop-row-preserved c =
    let rows = c.args.table.now.rows in
    let come = comes rows c.loop-row.row-iterator c.in-Some.row.now c.next.new.self c.loop-row.invariant.left c.in-Some.ensures.steps in
    record {
      left = come.rest;
      made = only_more (in_span c.args.span) rows (passed rows c.loop-row.row-iterator) c.in-Some.row.now c.loop-row.made.rows c.push_inside.new.made.rows come.within come.is c.loop-row.invariant.made c.in_ok-push_inside.ensures
          ∙ ap (λ (n : ℕ). rows_only (in_span c.args.span) (take n rows)) (sym come.next);
    }

pub returns-clause-part : goal.returns-clause-part
returns-clause-part c =
    c.loop-row.invariant.made
    ∙ ap (rows_only (in_span c.args.span)) (take_passed c.args.table.now.rows c.loop-row.row-iterator c.in-None.ensures.steps.0)
