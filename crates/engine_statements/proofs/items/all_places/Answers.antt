use Rattle.std.proofs.Common.{ℕ, List, ◌∷◌, [], ◌++◌, ◌∙◌, ap, sym}
use Rattle.engine_statements.proofs.InsertLemmas.{places_more}
use Rattle.engine_statements.proofs.items.all_places.Goals as goal

pub loop-at-preserved : goal.loop-at-preserved
loop-at-preserved c =
    c.in_ok-push.ensures.ok ∙ ap (λ (l : List ℕ). l ++ c.loop-at.at ∷ []) c.loop-at.invariant ∙ sym (places_more c.loop-at.at c.args.names.now c.loop-at-test.true)
