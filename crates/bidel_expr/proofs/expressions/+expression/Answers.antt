use Rattle.std.proofs.Common.{◌∙◌, ◌+◌, ◌-◌, ap, sym, arith, inl, inr}
use Rattle.std.proofs.lemmas.Result.{err_from_is_err_and}
use Rattle.expr_lang.specs.Terms.{text_term, Unary, Binary}
use Rattle.expr_lang.specs.declared.tree.UnaryOp.TheVariants.{Not, Negate}
use Rattle.phrases.specs.Reading.{one_at}
use Rattle.phrases.specs.Chains.{joined}
use Rattle.phrases.proofs.StepsLaws.{chain_ends, chain_full, chain_spent, chain_goes, chain_stops}
use Rattle.bidel_expr.specs.Literals.{close_of}
use Rattle.bidel_expr.specs.Operators.{op_of}
use Rattle.bidel_expr.specs.Expressions.{comp_item, comp_tail, expr_item, level_item, neg_item, unary_item, sum_item, primary_item, atom_item, operand_item}
use Rattle.bidel_expr.specs.ReadAnswers.{ahead}
use Rattle.bidel_expr.specs.inner.ExpressionParts.{part_of}
use Rattle.bidel_expr.proofs.CursorsLaws.{ahead_length, fails_through, gives_through}
use Rattle.bidel_expr.proofs.ExpressionSteps.{made, further_of, tail_of, level_is, neg_zero, neg_other, neg_goes, comp_is, tail_compares, compare_spent, unary_other, unary_number, unary_spent, unary_minus, closing, closed_by, primary_atom, primary_spent, primary_open}
use Rattle.bidel_expr.proofs.expressions.+expression.Goals as goal

pub chained-returns-in_err-first : goal.chained-returns-in_err-first
chained-returns-in_err-first t c = record {
  gives = let p = err_from_is_err_and c.from_residual.result c.from_residual.ensures.1 in
      rw (p.1, p.2) (fails_through _ (operand_item c.args.level (primary_item c.args.depth) c.args.limits.operators c.args.limits.parentheses (ahead c.args.cursor)) _ c.in_err-first.ensures.gives
      (λ e h. level_is c.args.level (primary_item c.args.depth) _ _ _ ∙ ap (further_of c.args.level (primary_item c.args.depth)) h));
}

pub chained-returns : goal.chained-returns
chained-returns t c = record {
  gives = gives_through part_of (level_item c.args.level (primary_item c.args.depth) c.args.limits.operators c.args.limits.parentheses)
      (joined Binary (op_of c.args.level) (operand_item c.args.level (primary_item c.args.depth)) c.in_ok-first.first.limits.operators (text_term c.in_ok-first.first.tree) c.in_ok-first.first.limits.operators c.in_ok-first.first.limits.parentheses)
      c.args.cursor c.in_ok-first.rest c.further.result
      (level_is c.args.level (primary_item c.args.depth) _ _ _ ∙ ap (further_of c.args.level (primary_item c.args.depth)) c.in_ok-first.ensures.gives)
      c.further.ensures.gives;
}

pub compared-returns-in_default : goal.compared-returns-in_default
compared-returns-in_default t c = record { gives = c.tested.ensures (sum_item (primary_item c.args.depth)) }

pub compared-returns-then-first-eq0 : goal.compared-returns-then-first-eq0
compared-returns-then-first-eq0 t c = record {
  gives = (
    ahead c.args.cursor,
    compare_spent (sum_item (primary_item c.args.depth)) (text_term c.args.first.tree) _ _ _ (ahead c.in-Some.rest) c.in-Some.op c.if-first-eq0.true c.in-Some.ensures,
    sym (ahead_length c.args.cursor),
  );
}

pub compared-returns-in_err-right : goal.compared-returns-in_err-right
compared-returns-in_err-right t c = record {
  gives = let p = err_from_is_err_and c.from_residual.result c.from_residual.ensures.1 in
      rw (p.1, p.2) (fails_through _ (sum_item (primary_item c.args.depth) (c.args.first.limits.operators - 1) c.args.first.limits.parentheses (ahead c.in-Some.rest)) _ c.in_err-right.ensures.gives
      (λ e h. tail_compares (sum_item (primary_item c.args.depth)) (text_term c.args.first.tree) _ _ _ (ahead c.in-Some.rest) c.in-Some.op c.if-first-eq0.false c.in-Some.ensures
      ∙ ap (made (Binary c.in-Some.op (text_term c.args.first.tree))) h));
}

pub compared-returns : goal.compared-returns
compared-returns t c = record {
  gives = rw c.in_ok-tree.ensures
      (tail_compares (sum_item (primary_item c.args.depth)) (text_term c.args.first.tree) _ _ _ (ahead c.in-Some.rest) c.in-Some.op c.if-first-eq0.false c.in-Some.ensures
      ∙ ap (made (Binary c.in-Some.op (text_term c.args.first.tree))) c.in_ok-right.ensures.gives);
}

pub comparison-returns-in_err-first : goal.comparison-returns-in_err-first
comparison-returns-in_err-first t c = record {
  gives = let p = err_from_is_err_and c.from_residual.result c.from_residual.ensures.1 in
      rw (p.1, p.2) (fails_through _ (sum_item (primary_item c.args.depth) c.args.limits.operators c.args.limits.parentheses (ahead c.args.cursor)) _ c.in_err-first.ensures.gives
      (λ e h. comp_is (primary_item c.args.depth) _ _ _ ∙ ap (tail_of (primary_item c.args.depth)) h));
}

pub comparison-returns : goal.comparison-returns
comparison-returns t c = record {
  gives = gives_through part_of (comp_item (primary_item c.args.depth) c.args.limits.operators c.args.limits.parentheses)
      (comp_tail (sum_item (primary_item c.args.depth)) (text_term c.in_ok-first.first.tree) c.in_ok-first.first.limits.operators c.in_ok-first.first.limits.parentheses)
      c.args.cursor c.in_ok-first.rest c.compared.result
      (comp_is (primary_item c.args.depth) _ _ _ ∙ ap (tail_of (primary_item c.args.depth)) c.in_ok-first.ensures.gives)
      c.compared.ensures.gives;
}

pub further-returns-in_default : goal.further-returns-in_default
further-returns-in_default t c = record {
  gives = sym c.loop-turn.invariant.same ∙ chain_ends Binary (op_of c.args.level) (operand_item c.args.level (primary_item c.args.depth)) _ _ _ _ _ c.in_default.ensures;
}

pub further-returns-then-limits-eq0 : goal.further-returns-then-limits-eq0
further-returns-then-limits-eq0 t c = record {
  gives = (
    ahead c.loop-turn.rest,
    sym c.loop-turn.invariant.same
        ∙ chain_spent Binary (op_of c.args.level) (operand_item c.args.level (primary_item c.args.depth)) _ (c.args.first.limits.operators - (c.loop-turn._turn + 1)) _ _ _ _ (c.in-Some.op, ahead c.in-Some.after)
        (omega (arith, c.loop-turn-test.true)) c.if-limits-eq0.true c.in-Some.ensures,
    sym (ahead_length c.loop-turn.rest),
  );
}

pub further-returns-in_err-right : goal.further-returns-in_err-right
further-returns-in_err-right t c = record {
  gives = let p = err_from_is_err_and c.from_residual.result c.from_residual.ensures.1 in
      rw (p.1, p.2) (fails_through _ (operand_item c.args.level (primary_item c.args.depth) (c.loop-turn.limits.operators - 1) c.loop-turn.limits.parentheses (ahead c.in-Some.after)) _ c.in_err-right.ensures.gives
      (λ e h. sym c.loop-turn.invariant.same
      ∙ chain_stops Binary (op_of c.args.level) (operand_item c.args.level (primary_item c.args.depth)) _ (c.args.first.limits.operators - (c.loop-turn._turn + 1)) _ _ _ _ e (c.in-Some.op, ahead c.in-Some.after)
      (omega (arith, c.loop-turn-test.true)) c.if-limits-eq0.false c.in-Some.ensures h));
}

pub further-loop-turn-preserved : goal.further-loop-turn-preserved
further-loop-turn-preserved t c = record {
  same = rw c.in_ok-tree.ensures
      (chain_goes Binary (op_of c.args.level) (operand_item c.args.level (primary_item c.args.depth)) (c.args.first.limits.operators - c.loop-turn._turn) (c.args.first.limits.operators - (c.loop-turn._turn + 1))
      (text_term c.loop-turn.tree) c.loop-turn.limits.operators c.loop-turn.limits.parentheses (ahead c.loop-turn.rest) (ahead c.in_ok-right.after) (c.in-Some.op, ahead c.in-Some.after) (part_of c.in_ok-right.right)
      (omega (arith, c.loop-turn-test.true)) c.if-limits-eq0.false c.in-Some.ensures c.in_ok-right.ensures.gives
      ∙ c.loop-turn.invariant.same);
}

pub further-returns : goal.further-returns
further-returns t c = record {
  gives = sym c.loop-turn.invariant.same ∙ chain_full Binary (op_of c.args.level) (operand_item c.args.level (primary_item c.args.depth)) _ _ _ _ _ (omega (arith, c.loop-turn-test.false));
}

pub negation-returns-then-limits-eq0 : goal.negation-returns-then-limits-eq0
negation-returns-then-limits-eq0 t c = record {
  gives = gives_through part_of (neg_item (primary_item c.args.depth) c.args.limits.operators c.args.limits.parentheses) (comp_item (primary_item c.args.depth) c.args.limits.operators c.args.limits.parentheses) c.args.cursor c.args.cursor c.comparison.result
      (neg_zero (primary_item c.args.depth) _ _ _ c.if-limits-eq0.true) c.comparison.ensures.gives;
}

pub negation-returns-in_default : goal.negation-returns-in_default
negation-returns-in_default t c = record {
  gives = gives_through part_of (neg_item (primary_item c.args.depth) c.args.limits.operators c.args.limits.parentheses) (comp_item (primary_item c.args.depth) c.args.limits.operators c.args.limits.parentheses) c.args.cursor c.args.cursor c.comparison-in_default.result
      (neg_other (primary_item c.args.depth) _ _ (ahead c.args.cursor) c.in_default.ensures) c.comparison-in_default.ensures.gives;
}

pub negation-returns-in_err-inner : goal.negation-returns-in_err-inner
negation-returns-in_err-inner t c = record {
  gives = let p = err_from_is_err_and c.from_residual.result c.from_residual.ensures.1 in
      rw (p.1, p.2) (fails_through _ (neg_item (primary_item c.args.depth) (c.args.limits.operators - 1) c.args.limits.parentheses (ahead c.in-Some.rest)) _ c.in_err-inner.ensures.gives
      (λ e h. neg_goes (primary_item c.args.depth) _ _ _ (ahead c.in-Some.rest) c.if-limits-eq0.false c.in-Some.ensures ∙ ap (made (Unary Not)) h));
}

pub negation-returns : goal.negation-returns
negation-returns t c = record {
  gives = rw c.in_ok-tree.ensures
      (neg_goes (primary_item c.args.depth) _ _ _ (ahead c.in-Some.rest) c.if-limits-eq0.false c.in-Some.ensures ∙ ap (made (Unary Not)) c.in_ok-inner.ensures.gives);
}

pub primary-returns-in_default : goal.primary-returns-in_default
primary-returns-in_default t c = record {
  gives = gives_through part_of (primary_item c.args.depth c.args.limits.operators c.args.limits.parentheses) (atom_item c.args.limits.operators c.args.limits.parentheses) c.args.cursor c.args.cursor c.atom.result
      (primary_atom c.args.depth _ _ (ahead c.args.cursor) c.in_default.ensures) c.atom.ensures;
}

pub primary-returns-then-limits-eq0 : goal.primary-returns-then-limits-eq0
primary-returns-then-limits-eq0 t c = record {
  gives = (
    ahead c.args.cursor,
    primary_spent c.args.depth _ _ _ (ahead c.in-Some.rest) (elim c.then-limits-eq0.either [ inl h ↦ inl h | inr h ↦ inr h.1 ]) c.in-Some.ensures,
    sym (ahead_length c.args.cursor),
  );
}

pub primary-returns-in_err-inner : goal.primary-returns-in_err-inner
primary-returns-in_err-inner t c = record {
  gives = let p = err_from_is_err_and c.from_residual.result c.from_residual.ensures.1 in
      rw (p.1, p.2) (fails_through _ (expr_item (primary_item (c.args.depth - 1)) c.args.limits.operators (c.args.limits.parentheses - 1) (ahead c.in-Some.rest)) _ c.in_err-inner.ensures.gives
      (λ e h. primary_open c.args.depth _ _ _ (ahead c.in-Some.rest) c.if-depth-eq0.false c.if-limits-eq0.false c.in-Some.ensures ∙ ap closing h));
}

pub primary-returns-in_err-rest : goal.primary-returns-in_err-rest
primary-returns-in_err-rest t c = record {
  gives = let p = err_from_is_err_and c.from_residual-in_err-rest.result c.from_residual-in_err-rest.ensures.1 in
      rw (p.1, p.2) (fails_through _ (one_at close_of (ahead c.in_ok-inner.rest)) _ c.in_err-rest.ensures
      (λ e h. primary_open c.args.depth _ _ _ (ahead c.in-Some.rest) c.if-depth-eq0.false c.if-limits-eq0.false c.in-Some.ensures ∙ ap closing c.in_ok-inner.ensures.gives ∙ ap (closed_by (part_of c.in_ok-inner.inner)) h));
}

pub primary-returns : goal.primary-returns
primary-returns t c = record {
  gives = primary_open c.args.depth _ _ _ (ahead c.in-Some.rest) c.if-depth-eq0.false c.if-limits-eq0.false c.in-Some.ensures ∙ ap closing c.in_ok-inner.ensures.gives
      ∙ ap (closed_by (part_of c.in_ok-inner.inner)) c.in_ok-rest.ensures;
}

pub unary-returns-in_default : goal.unary-returns-in_default
unary-returns-in_default t c = record {
  gives = gives_through part_of (unary_item (primary_item c.args.depth) c.args.limits.operators c.args.limits.parentheses) (primary_item c.args.depth c.args.limits.operators c.args.limits.parentheses) c.args.cursor c.args.cursor c.primary.result
      (unary_other (primary_item c.args.depth) _ _ (ahead c.args.cursor) c.in_default.ensures) c.primary.ensures.gives;
}

pub unary-returns-in-Some-next_negative : goal.unary-returns-in-Some-next_negative
unary-returns-in-Some-next_negative t c = record {
  gives = unary_number (primary_item c.args.depth) _ _ _ (ahead c.in-Some.rest) _ _ c.in-Some.ensures c.in-Some-next_negative.ensures;
}

pub unary-returns-then-limits-eq0 : goal.unary-returns-then-limits-eq0
unary-returns-then-limits-eq0 t c = record {
  gives = (
    ahead c.in-Some.rest,
    unary_spent (primary_item c.args.depth) _ _ _ (ahead c.in-Some.rest) c.if-limits-eq0.true c.in-Some.ensures c.in_default-next_negative.ensures,
    sym (ahead_length c.in-Some.rest),
  );
}

pub unary-returns-in_err-inner : goal.unary-returns-in_err-inner
unary-returns-in_err-inner t c = record {
  gives = let p = err_from_is_err_and c.from_residual.result c.from_residual.ensures.1 in
      rw (p.1, p.2) (fails_through _ (unary_item (primary_item c.args.depth) (c.args.limits.operators - 1) c.args.limits.parentheses (ahead c.in-Some.rest)) _ c.in_err-inner.ensures.gives
      (λ e h. unary_minus (primary_item c.args.depth) _ _ _ (ahead c.in-Some.rest) c.if-limits-eq0.false c.in-Some.ensures c.in_default-next_negative.ensures ∙ ap (made (Unary Negate)) h));
}

pub unary-returns : goal.unary-returns
unary-returns t c = record {
  gives = rw c.in_ok-tree.ensures
      (unary_minus (primary_item c.args.depth) _ _ _ (ahead c.in-Some.rest) c.if-limits-eq0.false c.in-Some.ensures c.in_default-next_negative.ensures ∙ ap (made (Unary Negate)) c.in_ok-inner.ensures.gives);
}
