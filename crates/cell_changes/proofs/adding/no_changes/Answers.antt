use Rattle.std.proofs.Common.{List, [], ◌∷◌, ◌++◌, ap, ◌∙◌}
use Rattle.row_store.specs.declared.change.Change.{Change}
use Rattle.row_changes.specs.Changed.{TableChanges}
use Rattle.cell_changes.specs.Growing.{no_changes}
use Rattle.cell_changes.proofs.GrowingLemmas.{no_changes_next}
use Rattle.cell_changes.proofs.adding.no_changes.Goals as goal

pub loop-preserved : goal.loop-preserved
loop-preserved c =
    c.in_ok-push.ensures.items ∙ ap (λ (cs : TableChanges). cs ++ c.new.result ∷ []) c.loop.invariant
    ∙ ap (λ (l : List Change). no_changes c.loop.counter ++ l ∷ []) c.new.ensures ∙ no_changes_next c.loop.counter
