use Rattle.db_state.proofs.OnceLaws.{stored_once}
use Rattle.db_state.proofs.laws.states_are_stored_once.Goals as goal

pub returns : goal.returns
returns g c p q first second same layouts = stored_once g.O.Operator.meaning p q first second same layouts
