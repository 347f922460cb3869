use Rattle.std.proofs.Common.{◌≡◌, map, take}
use Rattle.db_check.specs.inner.Spans.{in_span, line_in, line_of}
use Rattle.db_check.proofs.spans.stored_inside.Given as goal

abbrev pub invariant-loop-item : goal.invariant-loop-item
invariant-loop-item l = map line_of l.made ≡ map (line_in (in_span l.span)) (take l.item-index l.stored)
