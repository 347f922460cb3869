use Rattle.db_state.proofs.OnceLaws.{stored_once}
use Rattle.migration.proofs.named_move.adopt_move.Goals as goal

pub returns-clause-restores : goal.returns-clause-restores
returns-clause-restores g c p is same layout =
    stored_once g.O.Operator.meaning p c.adopt.new.db is (c.requires c.adopt.new.db c.adopt.ensures).0 same layout
