use Rattle.std.proofs.Common.{◌≡◌, [], drop, length}
use Rattle.id_memory.specs.Pairs.{RiseFrom}
use Rattle.json_members.specs.Trees.{trees_view}
use Rattle.dump_values.specs.Pairs.{pairs_behind}
use Rattle.dump_values.specs.inner.Calls.{EndBefore}
use Rattle.dump_values.proofs.pairs.read_triples.Given as goal

abbrev pub invariant-loop-item : goal.invariant-loop-item
invariant-loop-item l = record {
  read : pairs_behind [] 1 (trees_view l.fn.items.items) ≡ pairs_behind l.memory.entries l.least (trees_view (drop (length l.yielded) l.fn.items.items));
  rise : RiseFrom 0 l.memory.entries;
  below : EndBefore l.memory.entries l.least;
}
