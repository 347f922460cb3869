use Rattle.version_model.proofs.WriteLaws.{write_is_ordinary}
use Rattle.version_model.proofs.laws.writes_keep_the_state.Goals as goal

pub returns : goal.returns
returns g c es s w t rows next edges sound may = write_is_ordinary g.O.Operator.meaning es s sound w t rows next may g.met.O.Operator.laws edges
