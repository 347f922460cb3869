-- The write in full.
use Rattle.std.proofs.Common.{◌≡◌, List, sym, subst, ap, ◌∙◌}
use Rattle.par_base.specs.Checked.{Checked}
use Rattle.statements.specs.Views.{StatementView, statement_view}
use Rattle.engine_sessions.specs.declared.answer.Answer.{Answer}
use Rattle.engine_transactions.specs.Act.{at_once}
use Rattle.engine_transactions.specs.Calls.{standing_in}
use Rattle.engine_transactions.specs.ByKind.{written_full}
use Rattle.engine_transactions.specs.Runs.{HoldsWrite}
use Rattle.tx_history.specs.Views.{OpenView}
use Rattle.engine_transactions.specs.Standing.{Standing}
use Rattle.engine_transactions.proofs.KindLemmas.{is_write, once_written}
use Rattle.engine_transactions.proofs.commit.hold_write.Goals as goal

pub returns-clause-holds : goal.returns-clause-holds
returns-clause-holds g c =
    let at = c.args.at.now in
    let x = statement_view c.args.statement in
    let same : (opens : List OpenView) → written_full (standing_in at opens) (statement_view c.in_ok-statement.statement) ≡ at_once (standing_in at opens) x = λ opens.
    ap (λ (y : StatementView). written_full (standing_in at opens) y) c.in_ok-statement.ensures.full ∙ sym (once_written (standing_in at opens) x (is_write x c.requires.write)) in
    subst (λ (model : List OpenView → Checked (Answer × Standing)). HoldsWrite model at c.hold_full.new.at c.hold_full.result) (λ i. λ opens. same opens i) c.hold_full.ensures.holds
