use Rattle.std.proofs.Common.{◌∙◌, ◌+◌, ℕ, drop, ap, sym}
use Rattle.bidel_expr.specs.Lexemes.{value_after}
use Rattle.bidel_expr.proofs.DigitLemmas.{value_at, value_end, too_great}
use Rattle.bidel_expr.proofs.numbers.number_value.Goals as goal

pub returns-in-None : goal.returns-in-None
returns-in-None c = too_great c.loop-digit.value c.loop-digit.digit-index _ _ c.args.digits.now c.loop-digit-test.true c.loop-digit.invariant.same c.in-None.ensures

pub loop-digit-preserved : goal.loop-digit-preserved
loop-digit-preserved c = record {
  same = ap (λ (v : ℕ). value_after v (drop (c.loop-digit.digit-index + 1) c.args.digits.now)) c.in-Some.ensures.0
      ∙ sym (value_at c.loop-digit.value c.loop-digit.digit-index c.args.digits.now c.loop-digit-test.true) ∙ c.loop-digit.invariant.same;
  small = c.in-Some.ensures.1;
}

pub returns : goal.returns
returns c = (sym (value_end c.loop-digit.value c.loop-digit.digit-index c.args.digits.now c.loop-digit-test.false) ∙ c.loop-digit.invariant.same, c.loop-digit.invariant.small)
