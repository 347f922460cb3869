use Rattle.std.proofs.Common.{ℕ, sym, subst, take, ◌∙◌}
use Rattle.row_store.specs.Rows.{Rows}
use Rattle.row_store.specs.inner.RowsLeft.{all_left, comes, none_passed, passed, take_passed}
use Rattle.op_cond_join.specs.Joinings.{joining}
use Rattle.cond_closing.proofs.RowLemmas.{EachRow, ListsMet, all_met, each_next, each_then}
use Rattle.cond_closing.proofs.by_rows.add_all_met.Goals as goal

pub loop-other-init : goal.loop-other-init
loop-other-init g c =
    let rows = c.args.others.now.rows in
    let it = c.args.it.now in
    let same = c.into_iter-other-iterator.ensures.into_iter_gives ∙ c.iter-other-items.ensures.all in
    record {
      left = all_left rows c.into_iter-other-iterator.result same;
      met = subst (λ (n : ℕ). EachRow (ListsMet (joining it.join.now) it.half it.row.now c.args.ids.now) (take n rows)) (sym (none_passed rows c.into_iter-other-iterator.result same)) tt;
      stay = λ q h. h;
    }

pub loop-other-preserved : goal.loop-other-preserved
loop-other-preserved g c =
    let rows = c.args.others.now.rows in
    let it = c.args.it.now in
    let inv = c.loop-other.invariant in
    let row = c.in-Some.other.now in
    let new = c.add_if_met.new.ids in
    let more = c.in_ok-add_if_met.ensures.stay in
    let come = comes rows c.loop-other.other-iterator row c.next.new.self inv.left c.in-Some.ensures.steps in
    let P = ListsMet (joining it.join.now) it.half it.row.now new in
    let old = each_then (ListsMet (joining it.join.now) it.half it.row.now c.loop-other.ids) P (take (passed rows c.loop-other.other-iterator) rows) (λ b v lists met. more b (lists met)) inv.met in
    record {
      left = come.rest;
      met = subst (λ (n : ℕ). EachRow P (take n rows)) (sym come.next) (each_next P rows (passed rows c.loop-other.other-iterator) row come.within come.is old c.in_ok-add_if_met.ensures.met);
      stay = λ q h. more q (inv.stay q h);
    }

pub returns-clause-matches : goal.returns-clause-matches
returns-clause-matches g c =
    let rows = c.args.others.now.rows in
    let it = c.args.it.now in
    let j = joining it.join.now in
    all_met j it.half it.row.now c.loop-other.ids rows
    (subst (λ (all : Rows). EachRow (ListsMet j it.half it.row.now c.loop-other.ids) all) (take_passed rows c.loop-other.other-iterator c.in-None.ensures.steps.0) c.loop-other.invariant.met)

pub returns-clause-stay : goal.returns-clause-stay
returns-clause-stay g c = c.loop-other.invariant.stay
