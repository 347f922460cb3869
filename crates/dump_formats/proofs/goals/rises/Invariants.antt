use Rattle.std.proofs.Common.{drop}
use Rattle.version_graph.specs.Edges.{Rises}
use Rattle.dump_formats.proofs.goals.rises.Given as goal

abbrev pub invariant-loop-number : goal.invariant-loop-number
invariant-loop-number l = (Rises 0 l.numbers → Rises l.last (drop l.number-index l.numbers)) × (Rises l.last (drop l.number-index l.numbers) → Rises 0 l.numbers)
