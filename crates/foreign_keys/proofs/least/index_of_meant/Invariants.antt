use Rattle.std.proofs.Common.{◌≡◌, ◌++◌}
use Rattle.foreign_keys.specs.Least.{meant_rows}
use Rattle.foreign_keys.proofs.least.index_of_meant.Given as goal

abbrev pub invariant-loop-row : goal.invariant-loop-row
invariant-loop-row g l =
    let meant = g.C.Chooses.meant l.each in
    l.index.rows ++ meant_rows meant l.row-iterator ≡ meant_rows meant l.table.rows
