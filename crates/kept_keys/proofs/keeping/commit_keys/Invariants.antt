use Rattle.kept_keys.specs.Changed.{CommitsKeys}
use Rattle.kept_keys.proofs.LoopLemmas.{Passed}
use Rattle.kept_keys.proofs.keeping.commit_keys.Given as goal

abbrev pub invariant-loop-item : goal.invariant-loop-item
invariant-loop-item l = Passed CommitsKeys l.item-index l.fn.items l.items
