use Rattle.statements.specs.Views.{statement_view}
use Rattle.engine_sessions.proofs.FullLemmas.{full_within}
use Rattle.engine_sessions.proofs.sessions.Sessions.in_full.Goals as goal

pub returns-clause-texts : goal.returns-clause-texts
returns-clause-texts c = full_within c.in_full.result _ (statement_view c.args.statement) c.requires c.in_full.ensures
