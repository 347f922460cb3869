use Rattle.std.proofs.Common.{ℕ, ap, sym, subst, take, ◌∙◌}
use Rattle.row_store.specs.Rows.{Rows, AreBelow}
use Rattle.row_store.specs.inner.RowsLeft.{comes, passed}
use Rattle.pair_rows.specs.Halves.{pick_of}
use Rattle.outer_law.specs.Placed.{standing}
use Rattle.outer_entries.proofs.StandingLemmas.{below_next, standing_more}
use Rattle.outer_entries.proofs.standing_rows.standing.Goals as goal

pub push_if_stands-requires : goal.push_if_stands-requires
push_if_stands-requires c =
    let rows = c.args.rows.now.rows in
    let come = comes rows c.loop-row.row-iterator c.in-Some.row.now c.next.new.self c.loop-row.invariant.left c.in-Some.ensures.steps in
    subst (λ (rows : Rows). AreBelow rows c.in-Some.row.now.0) (sym c.loop-row.invariant.made)
    (below_next (pick_of c.args.half) c.args.memory.now.entries rows (passed rows c.loop-row.row-iterator) c.in-Some.row.now come.within come.is c.iter-row-items.ensures.rise)

pub loop-row-preserved : goal.loop-row-preserved
loop-row-preserved c =
    let rows = c.args.rows.now.rows in
    let come = comes rows c.loop-row.row-iterator c.in-Some.row.now c.next.new.self c.loop-row.invariant.left c.in-Some.ensures.steps in
    record {
      left = come.rest;
      made = standing_more (pick_of c.args.half) c.args.memory.now.entries rows (passed rows c.loop-row.row-iterator) c.in-Some.row.now c.loop-row.made.rows c.push_if_stands.new.made.rows come.within come.is c.loop-row.invariant.made c.in_ok-push_if_stands.ensures
          ∙ ap (λ (n : ℕ). standing (pick_of c.args.half) c.args.memory.now.entries (take n rows)) (sym come.next);
    }
