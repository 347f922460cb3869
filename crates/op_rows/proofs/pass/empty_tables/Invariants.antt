use Rattle.std.proofs.Common.{◌≡◌}
use Rattle.op_law.specs.Tables.{contents}
use Rattle.op_rows.specs.inner.Passes.{without_rows}
use Rattle.op_rows.proofs.pass.empty_tables.Given as goal

abbrev pub invariant-loop : goal.invariant-loop
invariant-loop l = contents l.made.items ≡ without_rows l.counter
