use Rattle.db_state.specs.Fields.{state_for}
use Rattle.db_state.proofs.StoredLemmas.{read_whole}
use Rattle.db_state.proofs.table.read_table.Goals as goal

pub returns-in-None : goal.returns-in-None
returns-in-None g c = read_whole c.read_along_way.result ((state_for g.O.Operator.meaning c.args.db.now).tables c.args.table) c.read_along_way.ensures.seen
