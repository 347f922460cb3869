use Rattle.std.proofs.Common.{◌≡◌, ℕ, List, [], Option, length, drop, ap, sym, ◌∙◌, arith}
use Rattle.std.proofs.lemmas.List.{drop_all}
use Rattle.row_store.specs.inner.RowsLeft.{all_first, comes_last, drop_first}
use Rattle.foreign_keys.specs.Seeking.{put_goal, goals_in}
use Rattle.foreign_keys.proofs.leads.goals_of.Goals as goal

pub loop-row-init : goal.loop-row-init
loop-row-init g c =
    let rows = c.args.table.now.rows in
    let same = ap (λ r. r.iter) c.into_iter-row-iterator.ensures.into_iter_gives ∙ c.rev-row-items.ensures.source ∙ c.iter.ensures.all in
    let none : drop (length c.into_iter-row-iterator.result.iter) rows ≡ [] = drop_all (length c.into_iter-row-iterator.result.iter) rows (omega (arith, ap length same)) in
    record {
      first = all_first rows c.into_iter-row-iterator.result.iter same;
      value = c.new-ids.ensures ∙ sym (ap (goals_in (g.L.Leads.goal c.args.each.now)) none);
    }

pub loop-row-preserved : goal.loop-row-preserved
loop-row-preserved g c =
    let come = comes_last c.args.table.now.rows c.loop-row.row-iterator.iter c.in-Some.row.now c.next.new.self.iter c.loop-row.invariant.first c.in-Some.ensures.steps in
    let to = g.L.Leads.goal c.args.each.now in
    record {
      first = come.rest;
      value = c.in_ok-add_goal.ensures ∙ ap (λ (o : Option ℕ). put_goal o c.loop-row.ids) c.lead.ensures
          ∙ ap (λ (ids : List ℕ). put_goal (to c.in-Some.row.now.0 c.in-Some.row.now.1) ids) c.loop-row.invariant.value ∙ sym (ap (goals_in to) come.behind);
    }

pub returns : goal.returns
returns g c = c.loop-row.invariant.value ∙ ap (goals_in (g.L.Leads.goal c.args.each.now)) (drop_first c.args.table.now.rows c.loop-row.row-iterator.iter c.in-None.ensures.steps.0)
