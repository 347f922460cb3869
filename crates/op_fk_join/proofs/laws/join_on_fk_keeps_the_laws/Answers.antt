use Rattle.op_fk_join.specs.inner.ColumnLemmas.{join_keeps}
use Rattle.op_fk_join.proofs.laws.join_on_fk_keeps_the_laws.Goals as goal

pub returns : goal.returns
returns c = join_keeps
