-- The read stands behind the others of its transaction.
use Rattle.std.specs.List.{position}
use Rattle.std.proofs.Common.{◌≡◌, ◌++◌, [], ◌∷◌, ℕ, ◌==◌, List, Option, Some, refl, sym, ap, ◌∙◌}
use Rattle.session_tx.specs.Transactions.{TransactionState}
use Rattle.statements.specs.declared.statement.Statement.{Statement}
use Rattle.tx_history.specs.Opens.{noted_in, opens_view, with_changed}
use Rattle.tx_history.specs.declared.open_transaction.OpenTransaction.{OpenTransaction}
use Rattle.tx_history.specs.declared.table_read.TableRead.{TableRead}
use Rattle.tx_history.proofs.NumberLaws.{ok_push}
use Rattle.tx_history.proofs.OpenLaws.{err_keep, none_view, same_changed, set_other, set_same}
use Rattle.tx_history.proofs.open_transaction.note.Goals as goal

abbrev more : TableRead → ℕ → TransactionState Statement TableRead → TransactionState Statement TableRead
more read at t = record { reads = t.reads ++ (read, at) ∷ []; writes = t.writes }

pub returns-in_default-clause-ok : goal.returns-in_default-clause-ok
returns-in_default-clause-ok c =
    sym (ap (λ (r : Option TableRead). with_changed (opens_view c.args.opens.now.items) c.args.session (λ t. noted_in t r c.args.at)) c.in_default.is ∙ same_changed (opens_view c.args.opens.now.items) c.args.session)

-- what is noted where there is a read
told : (opens : List OpenTransaction) (session : ℕ) (r : Option TableRead) (read : TableRead) (at : ℕ) → r ≡ Some read → with_changed (opens_view opens) session (λ t. noted_in t (Some read) at) ≡ with_changed (opens_view opens) session (λ t. noted_in t r at)
told opens session r read at is = ap (λ (o : Option TableRead). with_changed (opens_view opens) session (λ t. noted_in t o at)) (sym is)

pub returns-in_default-place_of_open-clause-ok : goal.returns-in_default-place_of_open-clause-ok
returns-in_default-place_of_open-clause-ok c =
    let own = c.args.session in
    let opens = c.args.opens.now.items in
    let read = c.in-Some.read in
    let found = ap (λ (l : List OpenTransaction). position (λ (o : OpenTransaction). o.session == own) l) (sym c.as_slice.ensures.value) ∙ sym c.place_of_open.ensures ∙ c.in_default-place_of_open.is in
    none_view own (more read c.args.at) (λ t. noted_in t (Some read) c.args.at) (λ t. refl) opens found ∙ told opens own c.args.read read c.args.at c.in-Some.is

pub returns-clause-ok : goal.returns-clause-ok
returns-clause-ok c =
    let own = c.args.session in
    let opens = c.args.opens.now.items in
    let read = c.in-Some.read in
    let x = c.index_mut.result.now in
    let found = ap (λ (l : List OpenTransaction). position (λ (o : OpenTransaction). o.session == own) l) (sym c.as_slice.ensures.value) ∙ sym c.place_of_open.ensures ∙ c.in-Some-place_of_open.is in
    ok_push c.note_read.result c.note_read.ensures.ok (λ e.
    let t : c.note_read.new.self ≡ more read c.args.at x.transaction = λ i. record { reads = e i; writes = c.note_read.ensures.same i } in
    set_other own (more read c.args.at) (λ t. noted_in t (Some read) c.args.at) (λ t. refl) opens c.in-Some-place_of_open.place x c.note_read.new.self c.index_mut.ensures.value t found
    ∙ told opens own c.args.read read c.args.at c.in-Some.is)

pub returns-clause-err : goal.returns-clause-err
returns-clause-err c =
    let opens = c.args.opens.now.items in
    let x = c.index_mut.result.now in
    err_keep c.note_read.result c.note_read.ensures.err (λ e.
    let t : c.note_read.new.self ≡ x.transaction = λ i. record { reads = e i; writes = c.note_read.ensures.same i } in
    set_same opens c.in-Some-place_of_open.place x c.note_read.new.self c.index_mut.ensures.value t)
