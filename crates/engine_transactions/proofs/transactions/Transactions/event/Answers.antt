-- One event of what is kept.
use Rattle.std.proofs.Common.{subst}
use Rattle.statements.specs.Views.{statement_view}
use Rattle.engine_transactions.specs.Act.{Answers, act}
use Rattle.engine_transactions.specs.Calls.{Keeps, standing_of}
use Rattle.engine_transactions.specs.declared.kept.Kept.{Kept}
use Rattle.engine_transactions.proofs.transactions.Transactions.event.Goals as goal

pub returns-clause-answers : goal.returns-clause-answers
returns-clause-answers g c = subst (λ (k : Kept). Answers (act (standing_of k) (statement_view c.args.statement)) c.event.result (standing_of c.event.new.self)) c.self.view_is c.event.ensures.answers

pub returns-clause-texts : goal.returns-clause-texts
returns-clause-texts g c = (subst (λ (k : Kept). Keeps (statement_view c.args.statement) k.executing c.event.new.self.executing) c.self.view_is c.event.ensures.keeps).texts
