use Rattle.std.proofs.Common.{◌≡◌, map, take}
use Rattle.engine_layouts.specs.inner.Calls.{shown_item}
use Rattle.engine_layouts.proofs.show.show_tables.Given as goal

abbrev pub invariant-loop-table : goal.invariant-loop-table
invariant-loop-table l = l.made ≡ map (shown_item l.graph.edges) (take l.table-index l.stored)
