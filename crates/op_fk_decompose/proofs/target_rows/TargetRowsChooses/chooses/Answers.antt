use Rattle.std.proofs.Common.{not, ap}
use Rattle.op_fk_decompose.proofs.target_rows.TargetRowsChooses.chooses.Goals as goal

pub returns : goal.returns
returns g c = ap not c.is_alone.ensures
