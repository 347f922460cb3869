use Rattle.std.proofs.Common.{◌≡◌, take}
use Rattle.std.specs.List.{find}
use mathlib.Core.List.{reverse}
use Rattle.version_graph.specs.Edges.{is_in}
use Rattle.migration.proofs.pending.newest_in.Given as goal

abbrev pub invariant-loop-operator : goal.invariant-loop-operator
invariant-loop-operator l = l.found ≡ find (λ n. is_in n l.layout) (reverse (take l.operator-index l.pending))
