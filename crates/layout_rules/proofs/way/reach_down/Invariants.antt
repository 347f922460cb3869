use Rattle.std.proofs.Common.{◌≡◌}
use Rattle.layout_rules.specs.inner.Reached.{down_from}
use Rattle.layout_rules.proofs.DownLaws.{below}
use Rattle.layout_rules.proofs.way.reach_down.Given as goal

abbrev pub invariant-loop-place : goal.invariant-loop-place
invariant-loop-place g l = l.tables.items ≡ down_from l.layout (below l.graph.edges l.place) l.fn.tables.items
