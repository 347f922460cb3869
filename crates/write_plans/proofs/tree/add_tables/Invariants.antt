use Rattle.std.proofs.Common.{take}
use Rattle.write_plans.specs.Trees.{Adds}
use Rattle.write_plans.proofs.tree.add_tables.Given as goal

abbrev pub invariant-loop-table : goal.invariant-loop-table
invariant-loop-table l = Adds (take l.table-index l.some) l.fn.tables l.tables l.more
