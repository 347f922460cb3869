use Rattle.std.proofs.Common.{◌≡◌, ℕ, ◌+◌, ◌∙◌, ap, arith}
use Rattle.id_memory.specs.States.{CounterState}
use Rattle.foreign_keys.proofs.DrawLemmas.{numbered_next, next_above, more_within}
use Rattle.foreign_keys.proofs.drawn.number.Goals as goal

pub push-requires : goal.push-requires
push-requires c =
    let own : c.in-Ok.id ≡ c.args.ids.now.next + c.loop-value.value-index = c.in-Ok.ensures.ok.0 ∙ ap (λ (s : CounterState). s.next) c.loop-value.invariant.next in
    next_above c.args.ids.now.next c.loop-value.value-index c.in-Ok.id c.args.values.now c.loop-value.table.rows c.loop-value-test.true c.loop-value.invariant.rows own

pub loop-value-preserved : goal.loop-value-preserved
loop-value-preserved c =
    let own : c.in-Ok.id ≡ c.args.ids.now.next + c.loop-value.value-index = c.in-Ok.ensures.ok.0 ∙ ap (λ (s : CounterState). s.next) c.loop-value.invariant.next in
    let limit : c.loop-value.left.limit ≡ c.args.ids.now.limit = ap (λ (s : CounterState). s.limit) c.loop-value.invariant.next in
    let next : c.loop-value.left.next ≡ c.args.ids.now.next + c.loop-value.value-index = ap (λ (s : CounterState). s.next) c.loop-value.invariant.next in
    record {
      rows = c.in_ok-push-in-Ok.ensures.ok ∙ numbered_next c.args.ids.now.next c.loop-value.value-index c.in-Ok.id c.args.values.now c.in_ok-copy-in-Ok.field-0 c.value-item.result c.loop-value.table.rows c.loop-value-test.true c.loop-value.invariant.rows own
          (c.in_ok-copy-in-Ok.ensures ∙ c.value-item.is);
      next = c.in-Ok.ensures.raised ∙ ap (λ (i : ℕ). record { next = i; limit = c.loop-value.left.limit }) (omega (arith, next)) ∙ ap (λ (i : ℕ). record { next = c.args.ids.now.next + (c.loop-value.value-index + 1); limit = i }) limit;
      within = more_within c.args.ids.now.next c.args.ids.now.limit c.loop-value.value-index (omega (arith, own, limit, c.in-Ok.ensures.ok.1));
    }
