use Rattle.std.proofs.Common.{◌≡◌, take}
use Rattle.ordinary_table.specs.Written.{numbered}
use Rattle.engine_statements.specs.Statements.{ids_of}
use Rattle.engine_statements.proofs.insert.drawn.Given as goal

abbrev pub invariant-loop-at : goal.invariant-loop-at
invariant-loop-at l = l.ids ≡ ids_of (numbered l.next (take l.at l.rows))
