-- A transaction without reads and writes comes behind the others.
use Rattle.std.proofs.Common.{◌++◌, [], ◌∷◌, List, map, ap, ◌∙◌}
use Rattle.statements.specs.Views.{statement_view}
use Rattle.tx_history.specs.Opens.{opens_view}
use Rattle.tx_history.specs.Views.{OpenView, TransactionView, no_transaction}
use Rattle.tx_history.specs.declared.open_transaction.OpenTransaction.{OpenTransaction}
use Rattle.tx_history.proofs.OpenLaws.{opened, view_more}
use Rattle.tx_history.proofs.open_transaction.start.Goals as goal

pub returns-clause-ok : goal.returns-clause-ok
returns-clause-ok c =
    let opens = c.args.opens.now.items in
    let session = c.args.session in
    let o : OpenTransaction = record { session = session; transaction = c.new.result } in
    let more : TransactionView → List OpenView = λ t. opens_view opens ++ record { session = session; transaction = t } ∷ [] in
    ap opens_view c.in_ok-push.ensures.items
    ∙ view_more opens o
    ∙ (λ i. more (record { reads = c.new.ensures.reads i; writes = map statement_view (c.new.ensures.writes i) }))
    ∙ opened session no_transaction (opens_view opens) c.requires
