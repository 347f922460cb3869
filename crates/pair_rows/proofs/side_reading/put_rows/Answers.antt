use Rattle.std.proofs.Common.{ℕ, List, length, ap, sym, ◌∙◌, arith}
use Rattle.std.proofs.lemmas.List.{drop_all}
use Rattle.row_store.specs.Rows.{Rows}
use Rattle.row_store.specs.inner.RowsLeft.{all_first, comes_last, drop_first}
use Rattle.op_law.specs.Identifiers.{put_id, ids_in}
use Rattle.pair_rows.proofs.side_reading.put_rows.Goals as goal

pub loop-row-init : goal.loop-row-init
loop-row-init c =
    let rows = c.args.table.now.rows in
    let same = ap (λ r. r.iter) c.into_iter-row-iterator.ensures.into_iter_gives ∙ c.rev-row-items.ensures.source ∙ c.iter.ensures.all in
    record {
      first = all_first rows c.into_iter-row-iterator.result.iter same;
      ids = ap (λ (rest : Rows). ids_in rest c.args.ids.now) (sym (drop_all (length c.into_iter-row-iterator.result.iter) rows (omega (arith, ap length same))));
    }

pub loop-row-preserved : goal.loop-row-preserved
loop-row-preserved c =
    let come = comes_last c.args.table.now.rows c.loop-row.row-iterator.iter c.in-Some.row.now c.next.new.self.iter c.loop-row.invariant.first c.in-Some.ensures.steps in
    record {
      first = come.rest;
      ids = c.in_ok-put_id.ensures ∙ ap (λ (ids : List ℕ). put_id c.in-Some.row.now.0 ids) c.loop-row.invariant.ids ∙ sym (ap (λ (rest : Rows). ids_in rest c.args.ids.now) come.behind);
    }

pub returns : goal.returns
returns c = c.loop-row.invariant.ids ∙ ap (λ (rest : Rows). ids_in rest c.args.ids.now) (drop_first c.args.table.now.rows c.loop-row.row-iterator.iter c.in-None.ensures.steps.0)
