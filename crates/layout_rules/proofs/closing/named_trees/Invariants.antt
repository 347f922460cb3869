use Rattle.std.proofs.Common.{◌≡◌, take}
use Rattle.layout_rules.specs.Closing.{named_trees}
use Rattle.layout_rules.proofs.closing.named_trees.Given as goal

abbrev pub invariant-loop-target : goal.invariant-loop-target
invariant-loop-target g l = l.made.items ≡ named_trees l.graph (take l.target-index l.named)
