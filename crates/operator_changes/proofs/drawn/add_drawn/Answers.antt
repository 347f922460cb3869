use Rattle.std.specs.Prelude.{◌-◌}
use Rattle.std.proofs.Common.{ℕ, List, [], ◌∷◌, ◌++◌, ap, sym, ◌∙◌, subst, arith}
use Rattle.op_rows.specs.inner.CellLemmas.{IdsRise}
use Rattle.operator_changes.specs.Footprint.{ids_under}
use Rattle.operator_changes.proofs.DrawnLemmas.{drawn_more, no_drawn, with_rise}
use Rattle.operator_changes.proofs.drawn.add_drawn.Goals as goal

pub loop-id-init : goal.loop-id-init
loop-id-init c = record { low = omega arith; all = c.in_ok-all.ensures ∙ no_drawn (ids_under c.args.from c.args.ids.now) c.args.from }

pub loop-id-preserved : goal.loop-id-preserved
loop-id-preserved c =
    let inv = c.loop-id.invariant in
    record {
      low = omega (arith, inv.low);
      all = c.in_ok-push.ensures.ok ∙ ap (λ (l : List ℕ). l ++ c.loop-id.id ∷ []) inv.all ∙ drawn_more (ids_under c.args.from c.args.ids.now) c.args.from c.loop-id.id inv.low;
    }

pub returns-clause-rise : goal.returns-clause-rise
returns-clause-rise c =
    let inv = c.loop-id.invariant in
    λ rise. subst (λ (l : List ℕ). IdsRise 0 l) (sym inv.all) (with_rise 0 c.args.from (c.loop-id.id - c.args.from) c.args.ids.now (omega arith) rise)
