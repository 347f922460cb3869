-- A write outside a transaction, or one that is kept.
use Rattle.std.specs.Prelude.{Option}
use Rattle.std.proofs.Common.{List, option_map, sym, ap, subst, ◌∙◌}
use Rattle.statements.specs.Views.{statement_view}
use Rattle.engine_transactions.specs.Calls.{standing_of}
use Rattle.engine_transactions.specs.Held.{HoldsAs}
use Rattle.engine_transactions.specs.ByKind.{written_at}
use Rattle.engine_transactions.specs.Leads.{written_data}
use Rattle.tx_history.specs.Opens.{opens_view}
use Rattle.tx_history.specs.Views.{OpenView, open_of}
use Rattle.tx_history.specs.declared.open_transaction.OpenTransaction.{OpenTransaction}
use Rattle.engine_transactions.proofs.KeptLemmas.{at_none, at_some, writes}
use Rattle.engine_transactions.proofs.kept.Kept.hold_write.Goals as goal

pub returns-in-None-clause-holds : goal.returns-in-None-clause-holds
returns-in-None-clause-holds g c =
    let old = c.args.self.now in
    let s = standing_of old in
    let x = statement_view c.args.statement in
    let none = at_none s c.session-session.result c.session-session.ensures c.keeps_write.result c.in-None.is (c.keeps_write.ensures ∙ ap (λ (l : List OpenTransaction). option_map writes (open_of (opens_view l) c.session-session.result)) c.as_slice.ensures.value) in
    subst (λ (o : Option OpenView). HoldsAs (written_at s o x) (written_data o) old c.hold_outside.result c.hold_outside.new.self) (sym none) c.hold_outside.ensures.holds

pub returns-in-Some-clause-holds : goal.returns-in-Some-clause-holds
returns-in-Some-clause-holds g c =
    let old = c.args.self.now in
    let s = standing_of old in
    let x = statement_view c.args.statement in
    let some = at_some s c.session-session.result c.session-session.ensures c.keeps_write.result _ c.in-Some.is (c.keeps_write.ensures ∙ ap (λ (l : List OpenTransaction). option_map writes (open_of (opens_view l) c.session-session.result)) c.as_slice.ensures.value) in
    subst (λ (o : Option OpenView). HoldsAs (written_at s o x) (written_data o) old c.keep.result c.keep.new.self) (sym some.1) (c.keep.ensures.holds some.0 some.1)
