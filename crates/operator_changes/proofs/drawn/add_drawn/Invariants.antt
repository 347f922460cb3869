use Rattle.std.proofs.Common.{◌≡◌, ◌≤◌, ◌-◌, ◌++◌}
use Rattle.operator_changes.specs.Footprint.{drawn_from, ids_under}
use Rattle.operator_changes.proofs.drawn.add_drawn.Given as goal

abbrev pub invariant-loop-id : goal.invariant-loop-id
invariant-loop-id l = record {
  low : l.from ≤ l.id;
  all : l.all ≡ ids_under l.from l.ids ++ drawn_from (l.id - l.from) l.from;
}
