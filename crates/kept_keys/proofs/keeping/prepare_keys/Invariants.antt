use Rattle.kept_keys.proofs.LoopLemmas.{Passed, Prepares}
use Rattle.kept_keys.proofs.keeping.prepare_keys.Given as goal

abbrev pub invariant-loop-item : goal.invariant-loop-item
invariant-loop-item l = Passed (Prepares l.tables l.made) l.item-index l.fn.items l.items
