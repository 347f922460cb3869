use Rattle.std.proofs.Common.{ℕ, List, ◌∷◌, [], ◌++◌, ◌+◌, length, ◌∙◌, ap, sym}
use Rattle.op_build.proofs.Ranges.{range_more}
use Rattle.op_build.proofs.plan_joins.places_after.Goals as goal

pub loop-at-preserved : goal.loop-at-preserved
loop-at-preserved c =
    c.in_ok-push.ensures.ok
    ∙ ap (λ (l : List ℕ). l ++ (length c.args.before.now + c.loop-at.at) ∷ []) c.loop-at.invariant
    ∙ sym (range_more (length c.args.before.now) c.loop-at.at)
