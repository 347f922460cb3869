use Rattle.std.proofs.Common.{◌∙◌, ap, sym}
use Rattle.std.proofs.lemmas.Result.{err_from_is_err_and}
use Rattle.expr_lang.specs.Terms.{text_term}
use Rattle.bidel_expr.specs.Expressions.{null_test_at}
use Rattle.bidel_expr.specs.ReadAnswers.{ahead}
use Rattle.bidel_expr.proofs.CursorsLaws.{ahead_length, fails_through}
use Rattle.bidel_expr.proofs.ExpressionSteps.{tail_ends, tail_tests, test_spent, tested_by}
use Rattle.bidel_expr.proofs.expressions.tested.Goals as goal

pub returns-in_default : goal.returns-in_default
returns-in_default c = λ sum. tail_ends sum _ _ _ _ c.requires c.in_default.ensures

pub returns-then-first-eq0 : goal.returns-then-first-eq0
returns-then-first-eq0 c = λ sum. (
  ahead c.args.cursor,
  test_spent sum (text_term c.args.first.tree) _ _ _ (ahead c.in-Some.rest) c.if-first-eq0.true c.in-Some.ensures,
  sym (ahead_length c.args.cursor),
)

pub returns-in_err-op : goal.returns-in_err-op
returns-in_err-op c = λ sum.
    let p = err_from_is_err_and c.from_residual.result c.from_residual.ensures.1 in
    rw (p.1, p.2) (fails_through _ (null_test_at (ahead c.in-Some.rest)) _ c.in_err-op.ensures
    (λ e h. tail_tests sum (text_term c.args.first.tree) _ _ _ (ahead c.in-Some.rest) c.if-first-eq0.false c.requires c.in-Some.ensures ∙ ap (tested_by _ _ _) h))

pub returns : goal.returns
returns c = λ sum.
    rw c.in_ok-tree.ensures (tail_tests sum (text_term c.args.first.tree) _ _ _ (ahead c.in-Some.rest) c.if-first-eq0.false c.requires c.in-Some.ensures ∙ ap (tested_by _ _ _) c.in_ok-op.ensures)
