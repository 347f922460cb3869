-- One event is the statement by what it is.
use Rattle.std.proofs.Common.{sym, subst}
use Rattle.par_base.specs.Checked.{Checked}
use Rattle.statements.specs.Views.{statement_view}
use Rattle.engine_sessions.specs.declared.answer.Answer.{Answer}
use Rattle.engine_transactions.specs.Act.{Answers}
use Rattle.engine_transactions.specs.Calls.{standing_of}
use Rattle.engine_transactions.specs.Standing.{Standing}
use Rattle.engine_transactions.proofs.KindLemmas.{act_by_kind}
use Rattle.engine_transactions.proofs.kept.Kept.event.Goals as goal

pub returns-clause-answers : goal.returns-clause-answers
returns-clause-answers g c =
    subst (λ (m : Checked (Answer × Standing)). Answers m c.carry_out.result (standing_of c.carry_out.new.self)) (sym (act_by_kind (standing_of c.args.self.now) (statement_view c.args.statement))) c.carry_out.ensures.answers
