use Rattle.std.proofs.Common.{◌≡◌, ◌+◌, ◌-◌, ◌∷◌, ◌++◌, [], List, ℕ, arith, sym, ap, ◌∙◌, length, map}
use Rattle.std.proofs.lemmas.Result.{err_from_is_err_and}
use Rattle.std.proofs.lemmas.List.{map_push}
use Rattle.phrases.specs.Reading.{with_front, many_at}
use Rattle.phrases.proofs.StepsLaws.{many_full, many_ends, many_goes, many_stops}
use Rattle.statements.specs.Views.{OpView, op_view}
use Rattle.bidel_parser.specs.Operators.{begins_operator}
use Rattle.bidel_parser.specs.inner.OperatorReaders.{closed_operator_at}
use Rattle.bidel_expr.specs.ReadAnswers.{ahead}
use Rattle.bidel_expr.proofs.CursorsLaws.{ahead_length, fails_through}
use Rattle.bidel_parser.proofs.operator_list.further_operators.Goals as goal
use Rattle.bidel_parser.proofs.operator_list.further_operators.Goals.{else-loop-turn-test, then-loop-turn-test+else-not-operator_begins+in_ok-operator+in_ok-push-2+else-turn-turn-end}

pub loop-turn-init : goal.loop-turn-init
loop-turn-init c =
    let turns : length (ahead c.args.cursor) + 1 - 0 ≡ length (ahead c.args.cursor) + 1 = omega arith in
    record {
      same = ap (λ (n : ℕ). with_front (map op_view c.push.new.self) (many_at begins_operator closed_operator_at c.args.ended n (ahead c.args.cursor))) turns
          ∙ ap (λ (l : List _). with_front (map op_view l) (many_at begins_operator closed_operator_at c.args.ended (length (ahead c.args.cursor) + 1) (ahead c.args.cursor)))
          (c.in_ok-push.ensures.ok ∙ ap (λ (l : List _). l ++ c.args.first ∷ []) c.new-operators.ensures);
    }

pub returns-then-not-operator_begins : goal.returns-then-not-operator_begins
returns-then-not-operator_begins c = sym c.loop-turn.invariant.same ∙ many_ends begins_operator closed_operator_at c.args.ended _ _ _ (sym c.operator_begins.ensures ∙ c.if-not-operator_begins.true)

pub returns-in_err-operator : goal.returns-in_err-operator
returns-in_err-operator c =
    let p = err_from_is_err_and c.from_residual-in_err-operator.result c.from_residual-in_err-operator.ensures.1 in
    rw (p.1, p.2) (fails_through _ (closed_operator_at (ahead c.loop-turn.rest)) _ c.in_err-operator.ensures
    (λ e h. sym c.loop-turn.invariant.same
    ∙ many_stops begins_operator closed_operator_at c.args.ended _ (length (ahead c.args.cursor) - c.loop-turn._turn) _ _ e (omega (arith, ahead_length c.args.cursor))
    (sym c.operator_begins.ensures ∙ c.if-not-operator_begins.false) h))

pub loop-turn-preserved : goal.loop-turn-preserved
loop-turn-preserved c = record {
  same = ap (λ (l : List OpView). with_front l (many_at begins_operator closed_operator_at c.args.ended (length (ahead c.args.cursor) + 1 - (c.loop-turn._turn + 1)) (ahead c.in_ok-operator.after)))
      (ap (map op_view) c.in_ok-push-2.ensures.ok ∙ map_push op_view c.loop-turn.operators c.in_ok-operator.operator)
      ∙ many_goes begins_operator closed_operator_at c.args.ended (length (ahead c.args.cursor) + 1 - c.loop-turn._turn) (length (ahead c.args.cursor) + 1 - (c.loop-turn._turn + 1))
      (map op_view c.loop-turn.operators) (op_view c.in_ok-operator.operator) (ahead c.loop-turn.rest) (ahead c.in_ok-operator.after) (omega (arith, ahead_length c.args.cursor))
      (sym c.operator_begins.ensures ∙ c.if-not-operator_begins.false) c.in_ok-operator.ensures
      ∙ c.loop-turn.invariant.same;
}

pub returns : goal.returns
returns c = elim c.loop-turn-test.branch [
  | else-loop-turn-test w ↦ absurd (omega arith)
  | then-loop-turn-test+else-not-operator_begins+in_ok-operator+in_ok-push-2+else-turn-turn-end w ↦ rw (w.operators-is, w.rest-is) (
      sym (ap (λ (l : List OpView). with_front l (many_at begins_operator closed_operator_at c.args.ended (length (ahead c.args.cursor) + 1 - (c.loop-turn._turn + 1)) (ahead w.in_ok-operator.after)))
      (ap (map op_view) w.in_ok-push-2.ensures.ok ∙ map_push op_view c.loop-turn.operators w.in_ok-operator.operator)
      ∙ many_goes begins_operator closed_operator_at c.args.ended (length (ahead c.args.cursor) + 1 - c.loop-turn._turn) (length (ahead c.args.cursor) + 1 - (c.loop-turn._turn + 1))
      (map op_view c.loop-turn.operators) (op_view w.in_ok-operator.operator) (ahead c.loop-turn.rest) (ahead w.in_ok-operator.after) (omega (arith, ahead_length c.args.cursor))
      (sym w.operator_begins.ensures ∙ w.if-not-operator_begins.false) w.in_ok-operator.ensures
      ∙ c.loop-turn.invariant.same)
      ∙ many_full begins_operator closed_operator_at c.args.ended (length (ahead c.args.cursor) + 1 - (c.loop-turn._turn + 1)) (map op_view w.push-in-loop-turn.new.self) (ahead w.in_ok-operator.after)
      (omega (arith, ahead_length c.args.cursor)))
]
