use Rattle.std.proofs.Common.{◌≡◌, take}
use Rattle.engine_transactions.specs.Act.{raised_all}
use Rattle.engine_transactions.proofs.accesses.raise_all.Given as goal

abbrev pub invariant-loop-table : goal.invariant-loop-table
invariant-loop-table l = l.made ≡ raised_all l.counts (take l.table-index l.tables)
