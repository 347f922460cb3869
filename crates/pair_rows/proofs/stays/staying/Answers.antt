use Rattle.std.proofs.Common.{ℕ, ap, sym, subst, take, ◌∙◌}
use Rattle.row_store.specs.Rows.{Rows, AreBelow}
use Rattle.row_store.specs.inner.RowsLeft.{all_left, comes, none_passed, passed, take_passed}
use Rattle.pair_rows.specs.Halves.{pick_of}
use Rattle.pair_rows.specs.Stays.{staying}
use Rattle.pair_rows.proofs.StayingLemmas.{kept_below_next, staying_more}
use Rattle.pair_rows.proofs.stays.staying.Goals as goal

pub loop-row-init : goal.loop-row-init
loop-row-init c =
    let rows = c.args.rows.now.rows in
    let same = c.into_iter-row-iterator.ensures.into_iter_gives ∙ c.iter-row-items.ensures.all in
    record {
      left = all_left rows c.into_iter-row-iterator.result same;
      made = c.new-made.ensures ∙ ap (λ (n : ℕ). staying (pick_of c.args.half) c.args.old.now.entries c.args.new.now.entries (take n rows)) (sym (none_passed rows c.into_iter-row-iterator.result same));
    }

pub push_if_stays-requires : goal.push_if_stays-requires
push_if_stays-requires c =
    let rows = c.args.rows.now.rows in
    let come = comes rows c.loop-row.row-iterator c.in-Some.row.now c.next.new.self c.loop-row.invariant.left c.in-Some.ensures.steps in
    subst (λ (rows : Rows). AreBelow rows c.in-Some.row.now.0) (sym c.loop-row.invariant.made)
    (kept_below_next (pick_of c.args.half) c.args.old.now.entries c.args.new.now.entries rows (passed rows c.loop-row.row-iterator) c.in-Some.row.now come.within come.is c.iter-row-items.ensures.rise)

pub loop-row-preserved : goal.loop-row-preserved
loop-row-preserved c =
    let rows = c.args.rows.now.rows in
    let come = comes rows c.loop-row.row-iterator c.in-Some.row.now c.next.new.self c.loop-row.invariant.left c.in-Some.ensures.steps in
    record {
      left = come.rest;
      made = staying_more (pick_of c.args.half) c.args.old.now.entries c.args.new.now.entries rows (passed rows c.loop-row.row-iterator) c.in-Some.row.now c.loop-row.made.rows c.push_if_stays.new.made.rows come.within come.is c.loop-row.invariant.made c.in_ok-push_if_stays.ensures
          ∙ ap (λ (n : ℕ). staying (pick_of c.args.half) c.args.old.now.entries c.args.new.now.entries (take n rows)) (sym come.next);
    }

pub returns : goal.returns
returns c =
    c.loop-row.invariant.made
    ∙ ap (staying (pick_of c.args.half) c.args.old.now.entries c.args.new.now.entries) (take_passed c.args.rows.now.rows c.loop-row.row-iterator c.in-None.ensures.steps.0)
