use Rattle.std.proofs.Common.{ℕ, List, [], ◌∷◌, ◌++◌, get_or, ap, sym, ◌∙◌, arith}
use Rattle.operator_changes.proofs.DrawnLemmas.{under_less, under_more}
use Rattle.operator_changes.proofs.drawn.ids_below.Goals as goal
use Rattle.operator_changes.proofs.drawn.ids_below.Goals.{then-id-n+in_ok-push, else-id-n}

pub loop-id-preserved : goal.loop-id-preserved
loop-id-preserved c =
    let i = c.loop-id.id-index in
    let ids = c.args.ids.now in
    let n = c.args.n in
    elim c.if-id-n.branch [
      | then-id-n+in_ok-push w ↦
          w.made-is ∙ w.in_ok-push.ensures.ok ∙ ap (λ (l : List ℕ). l ++ get_or ids i 0 ∷ []) c.loop-id.invariant ∙ sym (under_less n ids i c.loop-id-test.true w.if-id-n.true)
      | else-id-n w ↦ w.made-is ∙ c.loop-id.invariant ∙ sym (under_more n ids i c.loop-id-test.true (omega (arith, w.if-id-n.false)))
    ]
