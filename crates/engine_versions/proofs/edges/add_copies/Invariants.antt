use Rattle.std.proofs.Common.{◌≡◌, ◌++◌, take}
use Rattle.engine_versions.proofs.edges.add_copies.Given as goal

abbrev pub invariant-loop-table : goal.invariant-loop-table
invariant-loop-table l = l.set ≡ l.fn.set ++ take l.table-index l.tables
