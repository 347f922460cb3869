use Rattle.std.proofs.Common.{◌≡◌, ℕ, [], cond, Option, Some, length, drop, ap, sym, subst, ◌∙◌, arith}
use Rattle.std.proofs.lemmas.List.{drop_all}
use Rattle.row_store.specs.Rows.{Rows}
use Rattle.row_store.specs.inner.RowsLeft.{all_first, comes_last, drop_first}
use Rattle.id_sets.specs.IdNumbers.{number_of_id}
use Rattle.foreign_keys.specs.References.{is_goal}
use Rattle.foreign_keys.specs.Seeking.{first_led, AreFirstLed}
use Rattle.foreign_keys.proofs.leads.leads_to.Goals as goal

pub loop-row-init : goal.loop-row-init
loop-row-init g c =
    let rows = c.args.table.now.rows in
    let same = ap (λ r. r.iter) c.into_iter-row-iterator.ensures.into_iter_gives ∙ c.rev-row-items.ensures.source ∙ c.iter.ensures.all in
    let none : drop (length c.into_iter-row-iterator.result.iter) rows ≡ [] = drop_all (length c.into_iter-row-iterator.result.iter) rows (omega (arith, ap length same)) in
    record {
      first = all_first rows c.into_iter-row-iterator.result.iter same;
      led = subst (λ (rest : Rows). AreFirstLed (g.L.Leads.goal c.args.each.now) rest c.new-leads.result) (sym none) c.new-leads.ensures;
    }

pub loop-row-preserved : goal.loop-row-preserved
loop-row-preserved g c =
    let come = comes_last c.args.table.now.rows c.loop-row.row-iterator.iter c.in-Some.row.now c.next.new.self.iter c.loop-row.invariant.first c.in-Some.ensures.steps in
    let to = g.L.Leads.goal c.args.each.now in
    let row = c.in-Some.row.now in
    record {
      first = come.rest;
      led = λ q. c.in_ok-add_lead.ensures q ∙ ap (λ (o : Option ℕ). cond (is_goal o q) (Some row.0) (number_of_id c.loop-row.leads q)) c.lead.ensures
          ∙ ap (λ (o : Option ℕ). cond (is_goal (to row.0 row.1) q) (Some row.0) o) (c.loop-row.invariant.led q) ∙ sym (ap (λ (rest : Rows). first_led to rest q) come.behind);
    }

pub returns : goal.returns
returns g c = subst (λ (rest : Rows). AreFirstLed (g.L.Leads.goal c.args.each.now) rest c.loop-row.leads) (drop_first c.args.table.now.rows c.loop-row.row-iterator.iter c.in-None.ensures.steps.0) c.loop-row.invariant.led
