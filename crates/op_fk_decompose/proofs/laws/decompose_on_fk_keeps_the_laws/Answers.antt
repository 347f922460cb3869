use Rattle.op_fk_decompose.specs.inner.ColumnLemmas.{decompose_keeps}
use Rattle.op_fk_decompose.proofs.laws.decompose_on_fk_keeps_the_laws.Goals as goal

pub returns : goal.returns
returns c = decompose_keeps
