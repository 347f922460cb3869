-- What was held stays, or an error came.
use Rattle.statements.specs.Views.{statement_view}
use Rattle.engine_transactions.specs.Act.{act}
use Rattle.engine_transactions.specs.Calls.{standing_of}
use Rattle.engine_transactions.specs.Held.{Settles}
use Rattle.engine_transactions.specs.Leads.{data_behind}
use Rattle.engine_transactions.proofs.HoldLemmas.{held_fails}
use Rattle.engine_transactions.proofs.kept.Kept.write.Goals as goal

done : (g : _) (c : goal.After-settle g) → Settles (act (standing_of c.args.self.now) (statement_view c.args.statement)) c.args.self.now c.settle.result c.settle.new.self
done g c =
    let s = standing_of c.args.self.now in
    let x = statement_view c.args.statement in
    c.settle.ensures (act s x) (data_behind s x) c.args.self.now c.in-Ok.ensures.holds

pub returns-in-Ok-clause-answers : goal.returns-in-Ok-clause-answers
returns-in-Ok-clause-answers g c = (done g c).answers

pub returns-in-Ok-clause-answer : goal.returns-in-Ok-clause-answer
returns-in-Ok-clause-answer g c = (done g c).prints

pub returns-in-Ok-clause-keeps : goal.returns-in-Ok-clause-keeps
returns-in-Ok-clause-keeps g c = (done g c).keeps (statement_view c.args.statement)

pub returns-in-Ok-clause-idle : goal.returns-in-Ok-clause-idle
returns-in-Ok-clause-idle g c = (done g c).idle

pub returns-in-Err-clause-answers : goal.returns-in-Err-clause-answers
returns-in-Err-clause-answers g c =
    let s = standing_of c.args.self.now in
    let x = statement_view c.args.statement in
    held_fails (act s x) (data_behind s x) c.args.self.now c.hold.new.self c.in-Err.fault c.in-Err.ensures.holds
