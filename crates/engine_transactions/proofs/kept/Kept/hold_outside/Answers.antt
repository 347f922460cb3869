-- What runs leave to be settled.
use Rattle.statements.specs.Views.{statement_view}
use Rattle.tx_history.specs.Opens.{opens_view}
use Rattle.engine_transactions.proofs.HoldLemmas.{outside_fails, outside_held}
use Rattle.engine_transactions.proofs.kept.Kept.hold_outside.Goals as goal

pub returns-in-Ok-clause-holds : goal.returns-in-Ok-clause-holds
returns-in-Ok-clause-holds g c = outside_held c.args.self.now c.hold_write.new.at (statement_view c.args.statement) c.in-Ok.runs c.in-Ok.ensures.holds

pub returns-in-Err-clause-holds : goal.returns-in-Err-clause-holds
returns-in-Err-clause-holds g c = outside_fails c.args.self.now c.hold_write.new.at (statement_view c.args.statement) c.in-Err.fault c.in-Err.ensures.holds

pub returns-in-Err-clause-same : goal.returns-in-Err-clause-same
returns-in-Err-clause-same g c = c.in-Err.ensures.same (opens_view c.args.self.now.opens.items)
