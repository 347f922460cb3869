use Rattle.std.proofs.Common.{◌≡◌, take}
use Rattle.engine_statements.specs.Found.{shown_names}
use Rattle.engine_statements.proofs.expressions.shown_names.Given as goal

abbrev pub invariant-loop-column : goal.invariant-loop-column
invariant-loop-column l = l.names ≡ shown_names (take l.column-index l.columns)
