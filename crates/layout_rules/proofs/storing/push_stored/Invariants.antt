use Rattle.std.proofs.Common.{◌≡◌, ◌++◌, filter, take}
use Rattle.layout_rules.specs.Lookups.{is_stored}
use Rattle.layout_rules.proofs.storing.push_stored.Given as goal

abbrev pub invariant-loop-table : goal.invariant-loop-table
invariant-loop-table g l = l.made ≡ l.fn.made ++ filter (is_stored l.graph.edges l.layout) (take l.table-index l.tables)
