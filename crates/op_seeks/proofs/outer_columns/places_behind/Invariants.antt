use Rattle.std.proofs.Common.{◌≡◌, length}
use Rattle.op_outer_cond.specs.Outerings.{places_from}
use Rattle.op_seeks.proofs.outer_columns.places_behind.Given as goal

abbrev pub invariant-loop-at : goal.invariant-loop-at
invariant-loop-at l = l.made ≡ places_from (length l.before) l._at
