use Rattle.std.proofs.Common.{sym, ◌∙◌, arith}
use Rattle.row_parts.proofs.EditLemmas.{value_for_next, value_for_here, value_for_end}
use Rattle.row_parts.proofs.places.value_for.Goals as goal

pub returns-then-at-len : goal.returns-then-at-len
returns-then-at-len c = sym (value_for_end c.args.places.now c.args.values.now c.loop-at.at c.args.place (omega (arith, c.if-at-len.true, c.len.ensures))) ∙ c.loop-at.invariant

pub returns-then-places-at : goal.returns-then-places-at
returns-then-places-at c =
    c.get.ensures.value ∙ value_for_here c.args.places.now c.args.values.now c.loop-at.at c.args.place c.loop-at-test.true (omega (arith, c.if-at-len.false, c.len.ensures)) c.if-places-at.true ∙ c.loop-at.invariant

pub loop-at-preserved : goal.loop-at-preserved
loop-at-preserved c =
    value_for_next c.args.places.now c.args.values.now c.loop-at.at c.args.place c.loop-at-test.true (omega (arith, c.if-at-len.false, c.len.ensures)) c.if-places-at.false ∙ c.loop-at.invariant
