use Rattle.std.proofs.Common.{ℕ, [], ◌++◌, Option, ap, sym, take, ◌∙◌}
use Rattle.row_store.specs.inner.RowsLeft.{all_left, comes, none_passed, passed, take_passed}
use Rattle.pair_rows.specs.Given.{kept_entry, kept_in}
use Rattle.pair_rows.proofs.GivenLaws.{kept_more}
use Rattle.pair_rows.proofs.unchanged.kept_in.Goals as goal

pub loop-row-init : goal.loop-row-init
loop-row-init c =
    let rows = c.args.near.now.rows in
    let same = c.into_iter-row-iterator.ensures.into_iter_gives ∙ c.iter-row-items.ensures.all in
    record {
      left = all_left rows c.into_iter-row-iterator.result same;
      entries = c.none_taken-taken.ensures.entries ∙ ap (λ (n : ℕ). kept_in c.args.old.now.rows.now.rows c.args.old.now.memory.now.entries (take n rows)) (sym (none_passed rows c.into_iter-row-iterator.result same));
      knows = c.none_taken-taken.ensures.knows;
    }

pub loop-row-preserved : goal.loop-row-preserved
loop-row-preserved c =
    let rows = c.args.near.now.rows in
    let old = c.args.old.now.rows.now.rows in
    let memory = c.args.old.now.memory.now.entries in
    let come = comes rows c.loop-row.row-iterator c.in-Some.row.now c.next.new.self c.loop-row.invariant.left c.in-Some.ensures.steps in
    record {
      left = come.rest;
      entries = kept_more old memory rows (passed rows c.loop-row.row-iterator) c.in-Some.row.now c.loop-row.taken.entries c.take_kept.new.taken.entries come.within come.is c.loop-row.invariant.entries
          (c.in_ok-take_kept.ensures.entries ∙ ap (λ (pair : Option (ℕ × ℕ)). c.loop-row.taken.entries ++ kept_entry c.in-Some.row.now.0 pair []) c.unchanged_pair.ensures)
          ∙ ap (λ (n : ℕ). kept_in old memory (take n rows)) (sym come.next);
      knows = c.in_ok-take_kept.ensures.knows;
    }

pub returns-clause-entries : goal.returns-clause-entries
returns-clause-entries c =
    c.loop-row.invariant.entries
    ∙ ap (kept_in c.args.old.now.rows.now.rows c.args.old.now.memory.now.entries) (take_passed c.args.near.now.rows c.loop-row.row-iterator c.in-None.ensures.steps.0)
