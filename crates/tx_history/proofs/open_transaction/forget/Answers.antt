-- The last write of the session's transaction is gone.
use Rattle.std.specs.List.{position}
use Rattle.std.proofs.Common.{◌≡◌, ◌==◌, List, sym, ap, ◌∙◌}
use Rattle.tx_history.specs.Opens.{without_last}
use Rattle.tx_history.specs.declared.open_transaction.OpenTransaction.{OpenTransaction}
use Rattle.tx_history.proofs.OpenLaws.{less, less_told, none_view, set_other}
use Rattle.tx_history.proofs.open_transaction.forget.Goals as goal

pub returns-in_default : goal.returns-in_default
returns-in_default c =
    let own = c.args.session in
    let opens = c.args.opens.now.items in
    let found = ap (λ (l : List OpenTransaction). position (λ (o : OpenTransaction). o.session == own) l) (sym c.as_slice.ensures.value) ∙ sym c.place_of_open.ensures ∙ c.in_default.is in
    none_view own less without_last less_told opens found

pub returns-in-Some : goal.returns-in-Some
returns-in-Some c =
    let own = c.args.session in
    let opens = c.args.opens.now.items in
    let x = c.index_mut.result.now in
    let found = ap (λ (l : List OpenTransaction). position (λ (o : OpenTransaction). o.session == own) l) (sym c.as_slice.ensures.value) ∙ sym c.place_of_open.ensures ∙ c.in-Some.is in
    let t : c.forget.new.self ≡ less x.transaction = λ i. record { reads = c.forget.ensures.same i; writes = c.forget.ensures.writes i } in
    set_other own less without_last less_told opens c.in-Some.place x c.forget.new.self c.index_mut.ensures.value t found
