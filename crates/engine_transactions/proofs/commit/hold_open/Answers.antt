-- The transaction of the session, where there is one.
use Rattle.std.specs.Prelude.{option_map}
use Rattle.std.proofs.Common.{Option, refl, sym, ap, subst, ◌∙◌}
use Rattle.tx_history.specs.Opens.{open_view}
use Rattle.engine_transactions.specs.Runs.{HoldsOpen}
use Rattle.tx_history.specs.Views.{OpenView}
use Rattle.tx_history.proofs.OpenLaws.{found_view}
use Rattle.engine_transactions.proofs.commit.hold_open.Goals as goal

pub returns-in-Some-clause-holds : goal.returns-in-Some-clause-holds
returns-in-Some-clause-holds g c =
    let found = found_view c.args.opens.now c.args.session ∙ ap (option_map open_view) (sym c.in-Some.ensures) in
    subst (λ (o : Option OpenView). HoldsOpen o c.args.at.now c.hold_commit.new.at c.hold_commit.result) (sym found) c.hold_commit.ensures.holds

pub returns-in-None-clause-holds : goal.returns-in-None-clause-holds
returns-in-None-clause-holds g c =
    let found = found_view c.args.opens.now c.args.session ∙ ap (option_map open_view) (sym c.in-None.ensures) in
    rw found refl
