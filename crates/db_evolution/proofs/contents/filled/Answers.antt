use Rattle.db_evolution.proofs.FilledLemmas.{filled_is}
use Rattle.db_evolution.proofs.contents.filled.Goals as goal

pub returns-clause-fills : goal.returns-clause-fills
returns-clause-fills g c =
    let p = c.args.parts.now in
    filled_is g.O.Operator.meaning p c.args.first c.args.sources.now c.next.result c.copy.result c.in_ok-made.made c.in_ok-fresh.fresh c.in_ok-layout.layout c.in_ok-auxes.auxes c.in_ok-stored.field-0 c.laid_over.result c.laid_over-2.result c.laid_over-3.result c.as_slice.result.now c.as_slice-2.result.now
    c.next.ensures.value c.copy.ensures c.in_ok-made.ensures.makes c.in_ok-fresh.ensures.adds c.as_slice.ensures c.in_ok-layout.ensures c.as_slice-2.ensures c.in_ok-auxes.ensures.auxes c.in_ok-stored.ensures c.laid_over.ensures c.laid_over-2.ensures c.laid_over-3.ensures
