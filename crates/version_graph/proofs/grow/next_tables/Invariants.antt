use Rattle.std.proofs.Common.{◌≡◌, ◌+◌, take}
use Rattle.version_graph.specs.Evolve.{numbers_after}
use Rattle.version_graph.proofs.grow.next_tables.Given as goal

abbrev pub invariant-loop-target : goal.invariant-loop-target
invariant-loop-target l = record {
  count : l.next ≡ l.fn.last + l._target-index;
  made : l.made ≡ numbers_after l.fn.last (take l._target-index l.targets);
}
