use Rattle.std.proofs.Common.{◌≡◌, ◌∙◌, ℕ, ◌+◌, ◌≤◌, List, [], length, take, Option, sym, ap, subst, arith}
use Rattle.expr_lang.specs.Terms.{Term}
use Rattle.row_store.specs.declared.change.Change.{Change}
use Rattle.row_store.specs.Rows.{Rows}
use Rattle.row_store.specs.Changes.{AreOld, IsAbove}
use Rattle.row_store.specs.inner.RowsLeft.{comes, passed, take_passed}
use Rattle.row_changes.specs.Changed.{changed}
use Rattle.ordinary_table.specs.Shown.{condition_of}
use Rattle.ordinary_table.specs.inner.Told.{chosen_changes, gone}
use Rattle.ordinary_table.proofs.RowLemmas.{row_at, condition_row, below_row}
use Rattle.ordinary_table.proofs.ToldLemmas.{above_chosen, changes_met, changes_unmet, changes_count, changes_same, changed_deleted, old_chosen}
use Rattle.ordinary_table.proofs.delete.delete_rows.Goals as goal

pub is_chosen-requires : goal.is_chosen-requires
is_chosen-requires g c =
    let rows = c.args.table.now.rows in
    let row = c.in-Some.row.now in
    let come = comes rows c.loop-row.row-iterator row c.next.new.self c.loop-row.invariant.left c.in-Some.ensures.steps in
    let i = passed rows c.loop-row.row-iterator in
    let at = row_at rows c.loop-row.row-iterator row c.next.new.self come in
    condition_row c.requires.width rows i row (condition_of c.args.filter) at c.requires.wide c.requires.reads

pub push-requires : goal.push-requires
push-requires g c =
    let rows = c.args.table.now.rows in
    let row = c.in-Some.row.now in
    let come = comes rows c.loop-row.row-iterator row c.next.new.self c.loop-row.invariant.left c.in-Some.ensures.steps in
    let i = passed rows c.loop-row.row-iterator in
    let at = row_at rows c.loop-row.row-iterator row c.next.new.self come in
    subst (λ (changes : List Change). IsAbove changes c.in-Some.row.now.0) (sym c.loop-row.invariant.told)
    (above_chosen (condition_of c.args.filter) gone (take i rows) row.0 (below_row rows i row at c.iter-row-items.ensures.rise))

pub loop-row-preserved-in_ok-push : goal.loop-row-preserved-in_ok-push
loop-row-preserved-in_ok-push g c =
    let rows = c.args.table.now.rows in
    let row = c.in-Some.row.now in
    let come = comes rows c.loop-row.row-iterator row c.next.new.self c.loop-row.invariant.left c.in-Some.ensures.steps in
    let i = passed rows c.loop-row.row-iterator in
    let at = row_at rows c.loop-row.row-iterator row c.next.new.self come in
    let condition = condition_of c.args.filter in
    let long = ap length c.in-Some.ensures.steps in
    let steps : c.is_chosen.new.steps + length c.next.new.self ≤ c.args.steps.now + length rows = omega (arith, long, c.in_ok-is_chosen.ensures.steps, c.loop-row.invariant.steps) in
    record {
      left = come.rest;
      told = c.in_ok-push.ensures.ok
          ∙ rw (c.in_ok-copy.ensures, c.loop-row.invariant.told) (sym (changes_met rows condition gone i row at (sym c.in_ok-is_chosen.ensures.ok ∙ c.if-branch.true)))
          ∙ ap (λ (n : ℕ). chosen_changes condition gone (take n rows)) (sym come.next);
      steps = steps;
    }

pub loop-row-preserved : goal.loop-row-preserved
loop-row-preserved g c =
    let rows = c.args.table.now.rows in
    let row = c.in-Some.row.now in
    let come = comes rows c.loop-row.row-iterator row c.next.new.self c.loop-row.invariant.left c.in-Some.ensures.steps in
    let i = passed rows c.loop-row.row-iterator in
    let at = row_at rows c.loop-row.row-iterator row c.next.new.self come in
    let condition = condition_of c.args.filter in
    let long = ap length c.in-Some.ensures.steps in
    let steps : c.is_chosen.new.steps + length c.next.new.self ≤ c.args.steps.now + length rows = omega (arith, long, c.in_ok-is_chosen.ensures.steps, c.loop-row.invariant.steps) in
    record {
      left = come.rest;
      told = c.loop-row.invariant.told
          ∙ sym (changes_unmet rows condition gone i row at (sym c.in_ok-is_chosen.ensures.ok ∙ c.if-branch.false))
          ∙ ap (λ (n : ℕ). chosen_changes condition gone (take n rows)) (sym come.next);
      steps = steps;
    }

-- at the end the changes are those of the whole table
ended : (rows before : Rows) (changes : List Change) (condition : Option (Term ℕ)) → changes ≡ chosen_changes condition gone (take (passed rows before) rows) → before ≡ [] → changes ≡ chosen_changes condition gone rows
ended rows before changes condition is none = is ∙ ap (chosen_changes condition gone) (take_passed rows before none)

pub returns-clause-rows : goal.returns-clause-rows
returns-clause-rows g c whole has =
    let rows = c.args.table.now.rows in
    let condition = condition_of c.args.filter in
    let is = ended rows c.loop-row.row-iterator c.loop-row.changes condition c.loop-row.invariant.told c.in-None.ensures.steps.0 ∙ changes_same condition gone whole rows has in
    ap (changed whole) is ∙ changed_deleted whole condition has.rises

pub returns-clause-old : goal.returns-clause-old
returns-clause-old g c whole has =
    let rows = c.args.table.now.rows in
    let condition = condition_of c.args.filter in
    let is = ended rows c.loop-row.row-iterator c.loop-row.changes condition c.loop-row.invariant.told c.in-None.ensures.steps.0 ∙ changes_same condition gone whole rows has in
    subst (AreOld whole) (sym is) (old_chosen condition gone whole has.rises)

pub returns-clause-chosen : goal.returns-clause-chosen
returns-clause-chosen g c whole has =
    let rows = c.args.table.now.rows in
    let condition = condition_of c.args.filter in
    let is = ended rows c.loop-row.row-iterator c.loop-row.changes condition c.loop-row.invariant.told c.in-None.ensures.steps.0 ∙ changes_same condition gone whole rows has in
    c.len-chosen.ensures ∙ ap length is ∙ changes_count whole condition gone
