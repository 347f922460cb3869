-- The write stands behind the others of its transaction.
use Rattle.std.specs.List.{position}
use Rattle.std.proofs.Common.{◌≡◌, ◌++◌, [], ◌∷◌, ◌==◌, List, sym, ap, ◌∙◌}
use Rattle.session_tx.specs.Transactions.{TransactionState}
use Rattle.statements.specs.Views.{StatementView, statement_view}
use Rattle.statements.specs.declared.statement.Statement.{Statement}
use Rattle.tx_history.specs.Opens.{transaction_view}
use Rattle.tx_history.specs.Views.{with_write}
use Rattle.tx_history.specs.declared.open_transaction.OpenTransaction.{OpenTransaction}
use Rattle.tx_history.specs.declared.table_read.TableRead.{TableRead}
use Rattle.tx_history.proofs.NumberLaws.{ok_push}
use Rattle.tx_history.proofs.OpenLaws.{err_keep, none_view, set_other, set_same, write_more}
use Rattle.tx_history.proofs.open_transaction.keep.Goals as goal

abbrev more : Statement → TransactionState Statement TableRead → TransactionState Statement TableRead
more write t = record { reads = t.reads; writes = t.writes ++ write ∷ [] }

more_told : (write : Statement) (t : TransactionState Statement TableRead) → transaction_view (more write t) ≡ with_write (transaction_view t) (statement_view write)
more_told write t = ap (λ (l : List StatementView). record { reads = t.reads; writes = l }) (write_more t.writes write)

pub returns-in_default-clause-ok : goal.returns-in_default-clause-ok
returns-in_default-clause-ok c =
    let own = c.args.session in
    let opens = c.args.opens.now.items in
    let found = ap (λ (l : List OpenTransaction). position (λ (o : OpenTransaction). o.session == own) l) (sym c.as_slice.ensures.value) ∙ sym c.place_of_open.ensures ∙ c.in_default.is in
    none_view own (more c.args.write) (λ t. with_write t (statement_view c.args.write)) (more_told c.args.write) opens found

pub returns-clause-ok : goal.returns-clause-ok
returns-clause-ok c =
    let own = c.args.session in
    let opens = c.args.opens.now.items in
    let x = c.index_mut.result.now in
    let found = ap (λ (l : List OpenTransaction). position (λ (o : OpenTransaction). o.session == own) l) (sym c.as_slice.ensures.value) ∙ sym c.place_of_open.ensures ∙ c.in-Some.is in
    ok_push c.keep.result c.keep.ensures.ok (λ e.
    let t : c.keep.new.self ≡ more c.args.write x.transaction = λ i. record { reads = c.keep.ensures.same i; writes = e i } in
    set_other own (more c.args.write) (λ t. with_write t (statement_view c.args.write)) (more_told c.args.write) opens c.in-Some.place x c.keep.new.self c.index_mut.ensures.value t found)

pub returns-clause-err : goal.returns-clause-err
returns-clause-err c =
    let opens = c.args.opens.now.items in
    let x = c.index_mut.result.now in
    err_keep c.keep.result c.keep.ensures.err (λ e.
    let t : c.keep.new.self ≡ x.transaction = λ i. record { reads = c.keep.ensures.same i; writes = e i } in
    set_same opens c.in-Some.place x c.keep.new.self c.index_mut.ensures.value t)
