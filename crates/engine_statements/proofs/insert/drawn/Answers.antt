use Rattle.std.proofs.Common.{ℕ, List, ◌∷◌, [], ◌++◌, ◌+◌, ◌∙◌, ap, sym}
use Rattle.engine_statements.proofs.InsertLemmas.{ids_more}
use Rattle.engine_statements.proofs.insert.drawn.Goals as goal

pub loop-at-preserved : goal.loop-at-preserved
loop-at-preserved c =
    c.in_ok-push.ensures.ok ∙ ap (λ (l : List ℕ). l ++ (c.args.next + c.loop-at.at) ∷ []) c.loop-at.invariant ∙ sym (ids_more c.args.next c.loop-at.at c.args.rows.now c.loop-at-test.true)
