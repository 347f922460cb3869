use Rattle.std.proofs.Common.{◌≡◌, ◌∙◌, ℕ, ◌+◌, ◌*◌, ◌≤◌, List, [], length, take, Option, ap, sym, subst}
use Rattle.expr_lang.specs.Terms.{Term}
use Rattle.row_store.specs.declared.change.Change.{Change}
use Rattle.row_store.specs.Rows.{Rows}
use Rattle.row_store.specs.Changes.{AreOld}
use Rattle.row_store.specs.inner.RowsLeft.{comes, passed, take_passed}
use Rattle.row_changes.specs.Changed.{changed}
use Rattle.ordinary_table.specs.Shown.{condition_of}
use Rattle.ordinary_table.specs.Written.{SetTerm, sets_of}
use Rattle.ordinary_table.specs.inner.Told.{chosen_changes, set_to}
use Rattle.ordinary_table.proofs.RowLemmas.{row_at, wide_row, condition_row, below_row}
use Rattle.ordinary_table.proofs.StepLemmas.{steps_more}
use Rattle.ordinary_table.proofs.ToldLemmas.{above_chosen, some_id, changes_some, changes_none, changes_count, changes_same, changed_updated, old_chosen}
use Rattle.ordinary_table.proofs.update.update_rows.Goals as goal

pub change_of-requires-clause-sets : goal.change_of-requires-clause-sets
change_of-requires-clause-sets g c =
    let rows = c.args.table.now.rows in
    let row = c.in-Some.row.now in
    let come = comes rows c.loop-row.row-iterator row c.next.new.self c.loop-row.invariant.left c.in-Some.ensures.steps in
    let i = passed rows c.loop-row.row-iterator in
    let at = row_at rows c.loop-row.row-iterator row c.next.new.self come in
    rw (wide_row c.requires.width rows i row at c.requires.wide) c.requires.set

pub change_of-requires-clause-filter : goal.change_of-requires-clause-filter
change_of-requires-clause-filter g c =
    let rows = c.args.table.now.rows in
    let row = c.in-Some.row.now in
    let come = comes rows c.loop-row.row-iterator row c.next.new.self c.loop-row.invariant.left c.in-Some.ensures.steps in
    let i = passed rows c.loop-row.row-iterator in
    let at = row_at rows c.loop-row.row-iterator row c.next.new.self come in
    condition_row c.requires.width rows i row (condition_of c.args.filter) at c.requires.wide c.requires.reads

pub push-requires : goal.push-requires
push-requires g c =
    let rows = c.args.table.now.rows in
    let row = c.in-Some.row.now in
    let come = comes rows c.loop-row.row-iterator row c.next.new.self c.loop-row.invariant.left c.in-Some.ensures.steps in
    let i = passed rows c.loop-row.row-iterator in
    let at = row_at rows c.loop-row.row-iterator row c.next.new.self come in
    let sets = set_to (sets_of c.args.sets.now) in
    let condition = condition_of c.args.filter in
    let same = some_id condition sets row c.in-Some-2.change (sym c.in-Some-2.is ∙ c.in_ok-change.ensures.change) in
    rw (c.loop-row.invariant.told, same) (above_chosen condition sets (take i rows) row.0 (below_row rows i row at c.iter-row-items.ensures.rise))

pub loop-row-preserved-in-Continue-branch-3 : goal.loop-row-preserved-in-Continue-branch-3
loop-row-preserved-in-Continue-branch-3 g c =
    let rows = c.args.table.now.rows in
    let row = c.in-Some.row.now in
    let come = comes rows c.loop-row.row-iterator row c.next.new.self c.loop-row.invariant.left c.in-Some.ensures.steps in
    let i = passed rows c.loop-row.row-iterator in
    let at = row_at rows c.loop-row.row-iterator row c.next.new.self come in
    let sets = set_to (sets_of c.args.sets.now) in
    let condition = condition_of c.args.filter in
    record {
      left = come.rest;
      told = c.in_ok-push.ensures.ok
          ∙ rw c.loop-row.invariant.told (sym (changes_some rows condition sets i row c.in-Some-2.change at (sym c.in-Some-2.is ∙ c.in_ok-change.ensures.change)))
          ∙ ap (λ (n : ℕ). chosen_changes condition sets (take n rows)) (sym come.next);
      steps = subst (λ (n : ℕ). c.change_of.new.steps ≤ c.args.steps.now + n * (1 + length c.args.sets.now)) (sym come.next)
          (steps_more c.args.steps.now c.loop-row.steps c.change_of.new.steps i (1 + length c.args.sets.now) c.loop-row.invariant.steps c.in_ok-change.ensures.steps);
    }

pub loop-row-preserved : goal.loop-row-preserved
loop-row-preserved g c =
    let rows = c.args.table.now.rows in
    let row = c.in-Some.row.now in
    let come = comes rows c.loop-row.row-iterator row c.next.new.self c.loop-row.invariant.left c.in-Some.ensures.steps in
    let i = passed rows c.loop-row.row-iterator in
    let at = row_at rows c.loop-row.row-iterator row c.next.new.self come in
    let sets = set_to (sets_of c.args.sets.now) in
    let condition = condition_of c.args.filter in
    record {
      left = come.rest;
      told = c.loop-row.invariant.told
          ∙ sym (changes_none rows condition sets i row at (sym c.in_default.is ∙ c.in_ok-change.ensures.change))
          ∙ ap (λ (n : ℕ). chosen_changes condition sets (take n rows)) (sym come.next);
      steps = subst (λ (n : ℕ). c.change_of.new.steps ≤ c.args.steps.now + n * (1 + length c.args.sets.now)) (sym come.next)
          (steps_more c.args.steps.now c.loop-row.steps c.change_of.new.steps i (1 + length c.args.sets.now) c.loop-row.invariant.steps c.in_ok-change.ensures.steps);
    }

-- at the end the changes are those of the whole table
ended : (rows before : Rows) (changes : List Change) (sets : List SetTerm) (condition : Option (Term ℕ)) → changes ≡ chosen_changes condition (set_to sets) (take (passed rows before) rows) → before ≡ []
    → changes ≡ chosen_changes condition (set_to sets) rows
ended rows before changes sets condition is none = is ∙ ap (chosen_changes condition (set_to sets)) (take_passed rows before none)

pub returns-clause-rows : goal.returns-clause-rows
returns-clause-rows g c whole has =
    let rows = c.args.table.now.rows in
    let sets = sets_of c.args.sets.now in
    let condition = condition_of c.args.filter in
    let is = ended rows c.loop-row.row-iterator c.loop-row.changes sets condition c.loop-row.invariant.told c.in-None.ensures.steps.0 ∙ changes_same condition (set_to sets) whole rows has in
    ap (changed whole) is ∙ changed_updated whole sets condition has.rises

pub returns-clause-old : goal.returns-clause-old
returns-clause-old g c whole has =
    let rows = c.args.table.now.rows in
    let sets = sets_of c.args.sets.now in
    let condition = condition_of c.args.filter in
    let is = ended rows c.loop-row.row-iterator c.loop-row.changes sets condition c.loop-row.invariant.told c.in-None.ensures.steps.0 ∙ changes_same condition (set_to sets) whole rows has in
    subst (AreOld whole) (sym is) (old_chosen condition (set_to sets) whole has.rises)

pub returns-clause-chosen : goal.returns-clause-chosen
returns-clause-chosen g c whole has =
    let rows = c.args.table.now.rows in
    let sets = sets_of c.args.sets.now in
    let condition = condition_of c.args.filter in
    let is = ended rows c.loop-row.row-iterator c.loop-row.changes sets condition c.loop-row.invariant.told c.in-None.ensures.steps.0 ∙ changes_same condition (set_to sets) whole rows has in
    c.len-chosen.ensures ∙ ap length is ∙ changes_count whole condition (set_to sets)
