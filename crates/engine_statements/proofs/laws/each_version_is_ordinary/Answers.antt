use Rattle.op_any.specs.Operators.{any_laws, any_meaning}
use Rattle.version_model.proofs.WriteLaws.{write_is_ordinary}
use Rattle.engine_statements.proofs.laws.each_version_is_ordinary.Goals as goal

pub returns : goal.returns
returns c s p edges sound may =
    let kept = write_is_ordinary any_meaning s.graph.edges s.state sound p.found.set p.found.table.number p.rows p.next may any_laws edges in
    record { written = kept.table; others = kept.others }
