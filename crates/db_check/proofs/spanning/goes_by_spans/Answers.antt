use Rattle.std.proofs.Common.{◌∙◌}
use Rattle.db_check.proofs.SpanLemmas.{all_local}
use Rattle.db_check.proofs.spanning.goes_by_spans.Goals as goal

pub returns : goal.returns
returns g c by = all_local g.O.Operator.meaning c.args.parts.now c.as_slice-2.result.now (c.as_slice-2.ensures ∙ c.in_ok-live.ensures) (c.are_local.ensures.local by)
