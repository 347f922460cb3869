use Rattle.std.proofs.Common.{ap, map, subst, ◌∙◌}
use Rattle.op_law.specs.Calls.{tables_of}
use Rattle.op_law.specs.Tables.{AllRise, Tables}
use Rattle.op_law.specs.declared.side.Aux.{Aux}
use Rattle.version_model.specs.declared.numbered.Numbered.{Numbered}
use Rattle.db_check.specs.inner.Spans.{aux_line_in, aux_line_of, in_span}
use Rattle.db_check.proofs.SpanLemmas.{all_taken, map_taken}
use Rattle.db_check.proofs.spans.auxes_inside.Goals as goal

pub loop-item-preserved : goal.loop-item-preserved
loop-item-preserved c = record {
  part = ap (map aux_line_of) c.in_ok-push.ensures.ok
      ∙ map_taken aux_line_of (aux_line_in (in_span c.args.span)) c.loop-item.made (record { number = c.item-item.result.number; value = c.in_ok-value.value }) c.args.auxes.now c.loop-item.item-index c.item-item.result c.loop-item-test.true c.loop-item.invariant.part
      (ap (λ (ts : Tables). (c.item-item.result.number, ts)) c.in_ok-value.ensures.part ∙ ap (aux_line_in (in_span c.args.span)) c.item-item.is);
  rise = all_taken (λ (x : Numbered Aux). AllRise (tables_of x.value)) c.args.auxes.now c.loop-item.item-index c.item-item.result c.loop-item-test.true c.loop-item.invariant.rise
      (subst (λ (x : Numbered Aux). AllRise (tables_of x.value)) c.item-item.is c.in_ok-value.ensures.rise);
}
