use Rattle.std.proofs.Common.{ℕ, ◌∙◌, ◌+◌, ◌≤◌, length, take, ap, sym, arith}
use Rattle.row_store.specs.Rows.{Rows}
use Rattle.row_store.specs.inner.RowsLeft.{all_left, comes, none_passed, passed, take_passed}
use Rattle.ordinary_table.specs.Shown.{condition_of}
use Rattle.ordinary_table.specs.Selected.{selected}
use Rattle.ordinary_table.proofs.RowLemmas.{row_at, wide_row, condition_row}
use Rattle.ordinary_table.proofs.StepLemmas.{selected_met, selected_unmet}
use Rattle.ordinary_table.proofs.select.select_rows.Goals as goal

pub loop-row-init : goal.loop-row-init
loop-row-init g c =
    let rows = c.args.table.now.rows in
    let all = c.into_iter-row-iterator.result in
    let same = c.into_iter-row-iterator.ensures.into_iter_gives ∙ c.iter-row-items.ensures.all in
    record {
      left = all_left rows all same;
      made = c.new-made.ensures ∙ ap (λ (n : ℕ). selected (take n rows) c.args.places.now (condition_of c.args.filter)) (sym (none_passed rows all same));
      steps = let long = ap length same in omega (arith, long);
    }

pub is_chosen-requires : goal.is_chosen-requires
is_chosen-requires g c =
    let rows = c.args.table.now.rows in
    let row = c.in-Some.row.now in
    let come = comes rows c.loop-row.row-iterator row c.next.new.self c.loop-row.invariant.left c.in-Some.ensures.steps in
    let i = passed rows c.loop-row.row-iterator in
    let at = row_at rows c.loop-row.row-iterator row c.next.new.self come in
    condition_row c.requires.width rows i row (condition_of c.args.filter) at c.requires.wide c.requires.reads

pub listed_row-requires : goal.listed_row-requires
listed_row-requires g c =
    let rows = c.args.table.now.rows in
    let row = c.in-Some.row.now in
    let come = comes rows c.loop-row.row-iterator row c.next.new.self c.loop-row.invariant.left c.in-Some.ensures.steps in
    let i = passed rows c.loop-row.row-iterator in
    let at = row_at rows c.loop-row.row-iterator row c.next.new.self come in
    rw (wide_row c.requires.width rows i row at c.requires.wide) c.requires.shows

pub loop-row-preserved-in_ok-push : goal.loop-row-preserved-in_ok-push
loop-row-preserved-in_ok-push g c =
    let rows = c.args.table.now.rows in
    let row = c.in-Some.row.now in
    let come = comes rows c.loop-row.row-iterator row c.next.new.self c.loop-row.invariant.left c.in-Some.ensures.steps in
    let i = passed rows c.loop-row.row-iterator in
    let at = row_at rows c.loop-row.row-iterator row c.next.new.self come in
    let places = c.args.places.now in
    let condition = condition_of c.args.filter in
    let long = ap length c.in-Some.ensures.steps in
    let steps : c.is_chosen.new.steps + length c.next.new.self ≤ c.args.steps.now + length rows = omega (arith, long, c.in_ok-is_chosen.ensures.steps, c.loop-row.invariant.steps) in
    record {
      left = come.rest;
      made = c.in_ok-push.ensures.ok
          ∙ rw (c.in_ok-listed_row.ensures, c.loop-row.invariant.made)
          (sym (selected_met rows places condition i row at (sym c.in_ok-is_chosen.ensures.ok ∙ c.if-branch.true)))
          ∙ ap (λ (n : ℕ). selected (take n rows) places condition) (sym come.next);
      steps = steps;
    }

pub loop-row-preserved : goal.loop-row-preserved
loop-row-preserved g c =
    let rows = c.args.table.now.rows in
    let row = c.in-Some.row.now in
    let come = comes rows c.loop-row.row-iterator row c.next.new.self c.loop-row.invariant.left c.in-Some.ensures.steps in
    let i = passed rows c.loop-row.row-iterator in
    let at = row_at rows c.loop-row.row-iterator row c.next.new.self come in
    let places = c.args.places.now in
    let condition = condition_of c.args.filter in
    let long = ap length c.in-Some.ensures.steps in
    let steps : c.is_chosen.new.steps + length c.next.new.self ≤ c.args.steps.now + length rows = omega (arith, long, c.in_ok-is_chosen.ensures.steps, c.loop-row.invariant.steps) in
    record {
      left = come.rest;
      made = c.loop-row.invariant.made
          ∙ sym (selected_unmet rows places condition i row at (sym c.in_ok-is_chosen.ensures.ok ∙ c.if-branch.false))
          ∙ ap (λ (n : ℕ). selected (take n rows) places condition) (sym come.next);
      steps = steps;
    }

pub returns-clause-ok : goal.returns-clause-ok
returns-clause-ok g c =
    c.loop-row.invariant.made
    ∙ ap (λ (rows : Rows). selected rows c.args.places.now (condition_of c.args.filter)) (take_passed c.args.table.now.rows c.loop-row.row-iterator c.in-None.ensures.steps.0)
