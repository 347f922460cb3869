use Rattle.std.proofs.Common.{◌≡◌, ◌+◌, length, vec_len, ◌∙◌, ap, arith, rules}
use Rattle.row_parts.specs.Places.{filled, value_of_both}
use Rattle.row_parts.proofs.EditLemmas.{filled_next}
use Rattle.row_parts.proofs.places.row_of_both.Goals as goal

pub loop-preserved : goal.loop-preserved
loop-preserved c =
    let is : vec_len c.loop.row ≡ length c.loop.row.items = search rules in
    let f = value_of_both c.args.first_places.now c.args.second_places.now c.args.first.now c.args.second.now in
    c.in_ok-push.ensures.items ∙ filled_next c.loop.row.items c.len-place.result c.loop.counter c.in_ok-value_of_both.field-0 f c.loop.invariant (c.len-place.ensures ∙ is) c.in_ok-value_of_both.ensures

pub loop-2-preserved : goal.loop-2-preserved
loop-2-preserved c =
    let is : vec_len c.loop-2.row ≡ length c.loop-2.row.items = search rules in
    let f = value_of_both c.args.first_places.now c.args.second_places.now c.args.first.now c.args.second.now in
    c.in_ok-push-2.ensures.items ∙ filled_next c.loop-2.row.items c.len-place-in-loop-2.result (length c.args.first_places.now + c.loop-2.counter) c.in_ok-value_of_both-2.field-0 f c.loop-2.invariant (c.len-place-in-loop-2.ensures ∙ is) c.in_ok-value_of_both-2.ensures
    ∙ ap (λ i. filled i 0 f) (omega arith)
