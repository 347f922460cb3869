-- The transaction as it is told keeps as many writes.
use Rattle.std.proofs.Common.{ℕ, ◌==◌, Bool, not, length, Some, option_map, sym, ap, ◌∙◌}
use Rattle.tx_history.specs.Opens.{open_view}
use Rattle.tx_history.specs.Views.{OpenView}
use Rattle.tx_history.specs.declared.open_transaction.OpenTransaction.{OpenTransaction}
use Rattle.tx_history.proofs.OpenLaws.{as_many, found_view}
use Rattle.tx_history.proofs.open_transaction.keeps_write.Goals as goal

abbrev writes : OpenView → Bool
writes own = not (length own.transaction.writes == 0)

pub returns-in-Some : goal.returns-in-Some
returns-in-Some c =
    let found = found_view c.args.opens.now c.args.session ∙ ap (option_map open_view) (sym c.in-Some.ensures) in
    let o : OpenTransaction = c.in-Some.open.now in
    ap (λ (b : Bool). Some b) (c.has_write.ensures ∙ ap (λ (n : ℕ). not (n == 0)) (sym (as_many o.transaction.writes)))
    ∙ sym (ap (option_map writes) found)

pub returns-in-None : goal.returns-in-None
returns-in-None c = sym (ap (option_map writes) (found_view c.args.opens.now c.args.session ∙ ap (option_map open_view) (sym c.in-None.ensures)))
