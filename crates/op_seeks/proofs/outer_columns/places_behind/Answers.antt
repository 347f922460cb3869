use Rattle.std.proofs.Common.{ℕ, List, length, ◌++◌, ◌∷◌, [], ◌+◌, ap, ◌∙◌}
use Rattle.op_seeks.proofs.OuterColumnLemmas.{places_none, places_more}
use Rattle.op_seeks.proofs.outer_columns.places_behind.Goals as goal

pub loop-at-init : goal.loop-at-init
loop-at-init c = c.new-made.ensures ∙ places_none (length c.args.before.now)

pub loop-at-preserved : goal.loop-at-preserved
loop-at-preserved c =
    places_more (length c.args.before.now) c.loop-at._at c.loop-at.made c.push.new.self c.loop-at.invariant
    (c.in_ok-push.ensures.ok ∙ ap (λ (made : List ℕ). c.loop-at.made ++ (length c.args.before.now + length made) ∷ []) c.as_slice.ensures)
