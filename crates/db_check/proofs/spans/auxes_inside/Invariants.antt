use Rattle.std.proofs.Common.{◌≡◌, map, take}
use Rattle.db_check.specs.inner.Spans.{AuxesRise, aux_line_in, aux_line_of, in_span}
use Rattle.db_check.proofs.spans.auxes_inside.Given as goal

abbrev pub invariant-loop-item : goal.invariant-loop-item
invariant-loop-item l = record {
  part : map aux_line_of l.made ≡ map (aux_line_in (in_span l.span)) (take l.item-index l.auxes);
  rise : AuxesRise (take l.item-index l.auxes);
}
