use Rattle.std.proofs.Common.{None, subst}
use Rattle.db_state.specs.declared.parts.Parts.{Parts}
use Rattle.db_check.specs.inner.Spans.{AdmitsSpan}
use Rattle.db_check.proofs.SpanLemmas.{last_admits}
use Rattle.db_check.proofs.spanning.admit_spans.Goals as goal

pub returns-clause-admits : goal.returns-clause-admits
returns-clause-admits g c =
    let meaning = g.O.Operator.meaning in
    let low = c.loop-end.low in
    let got = subst (λ (p : Parts _). AdmitsSpan meaning p (record { low = low; high = None }) c.admit_span-2.result) c.loop-end.invariant.same c.admit_span-2.ensures.admits in
    last_admits meaning g.met.O.Operator.laws c.args.parts.now c.requires.read c.requires.well c.requires.local c.next-next.ensures.from_one c.next-next.ensures.value low c.loop-end.invariant.good c.admit_span-2.result got
