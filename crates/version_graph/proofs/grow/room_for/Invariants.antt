use Rattle.std.proofs.Common.{◌<◌, ◌^◌, ◌≡◌, ◌+◌, ◌≤◌, drop}
use Rattle.version_graph.specs.Evolve.{limit_passed, targets_in}
use Rattle.version_graph.proofs.grow.room_for.Given as goal

abbrev pub invariant-loop-edge : goal.invariant-loop-edge
invariant-loop-edge g l = record {
  count : l.count ≡ l.fn.live + l.edge-index;
  few : l.count ≤ 1024;
  operator : l.after.operator ≡ l.fn.last.operator + l.edge-index;
  table : l.after.table + targets_in (drop l.edge-index l.edges) ≡ l.fn.last.table + targets_in l.edges;
  fits : (l.after.operator < 2 ^ 32) × (l.after.table < 2 ^ 32);
  limit : limit_passed l.count l.after.operator l.after.table (drop l.edge-index l.edges) ≡ limit_passed l.fn.live l.fn.last.operator l.fn.last.table l.edges;
}
