-- What the runs of the transaction at hand leave to be settled.
use Rattle.std.proofs.Common.{List, Option, Ok, Err, subst, ap, ◌∙◌}
use Rattle.engine_transactions.specs.Act.{at_hand}
use Rattle.engine_transactions.specs.Calls.{standing_of}
use Rattle.tx_history.specs.Opens.{opens_view}
use Rattle.engine_transactions.specs.Runs.{HoldsOpen}
use Rattle.tx_history.specs.Views.{OpenView, open_of}
use Rattle.tx_history.specs.declared.open_transaction.OpenTransaction.{OpenTransaction}
use Rattle.engine_transactions.proofs.HoldLemmas.{commit_fails, commit_held}
use Rattle.engine_transactions.proofs.kept.Kept.hold_commit.Goals as goal

pub returns-in-Ok-clause-holds : goal.returns-in-Ok-clause-holds
returns-in-Ok-clause-holds g c =
    let old = c.args.self.now in
    let own = c.session-session.ensures in
    let same = ap (λ (l : List OpenTransaction). open_of (opens_view l) c.session-session.result) c.as_slice-opens.ensures.value ∙ ap (λ n. open_of (opens_view old.opens.items) n) own in
    let holds = subst (λ (o : Option OpenView). HoldsOpen o old.executing c.hold_open.new.at (Ok c.in-Ok.runs)) same c.in-Ok.ensures.holds in
    commit_held old c.hold_open.new.at c.session-session.result own (at_hand (standing_of old)) c.in-Ok.runs holds

pub returns-in-Err-clause-holds : goal.returns-in-Err-clause-holds
returns-in-Err-clause-holds g c =
    let old = c.args.self.now in
    let own = c.session-session.ensures in
    let same = ap (λ (l : List OpenTransaction). open_of (opens_view l) c.session-session.result) c.as_slice-opens.ensures.value ∙ ap (λ n. open_of (opens_view old.opens.items) n) own in
    let holds = subst (λ (o : Option OpenView). HoldsOpen o old.executing c.hold_open.new.at (Err c.in-Err.fault)) same c.in-Err.ensures.holds in
    commit_fails old c.hold_open.new.at c.session-session.result own (at_hand (standing_of old)) c.in-Err.fault holds

pub returns-in-Err-clause-same : goal.returns-in-Err-clause-same
returns-in-Err-clause-same g c = c.in-Err.ensures.same (opens_view c.args.self.now.opens.items)
