use Rattle.std.proofs.Common.{sym, subst}
use Rattle.op_rows.specs.inner.CellLemmas.{IdsRise, rise_in}
use Rattle.op_tables.proofs.pass.with_ids.Goals as goal

pub returns-clause-rise : goal.returns-clause-rise
returns-clause-rise c =
    let listed : IdsRise 0 c.as_slice.result.now = subst (IdsRise 0) (sym c.as_slice.ensures) c.requires in
    subst (IdsRise 0) (sym c.in_ok-all.ensures.value) (rise_in 0 c.args.table.now.rows c.as_slice.result.now c.in_ok-all.ensures.rise listed)
