use Rattle.std.proofs.Common.{◌≡◌, drop}
use Rattle.engine_statements.specs.Statements.{right_counts}
use Rattle.engine_statements.proofs.counts.check_counts.Given as goal

abbrev pub invariant-loop-row : goal.invariant-loop-row
invariant-loop-row l = right_counts l.wanted (drop l.row-index l.rows) ≡ right_counts l.wanted l.rows
