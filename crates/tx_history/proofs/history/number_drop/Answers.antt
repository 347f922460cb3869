-- The name at the place has the next number.
use Rattle.std.proofs.Common.{ℕ, ◌≤◌, refl, sym, subst, ◌∙◌}
use Rattle.tx_history.specs.declared.history.ChangeNumbers.{ChangeNumbers}
use Rattle.tx_history.proofs.DropLaws.{drop_history, drop_set, drops_past}
use Rattle.tx_history.proofs.NumberLaws.{not_less}
use Rattle.tx_history.proofs.history.number_drop.Goals as goal

pub returns-clause-history : goal.returns-clause-history
returns-clause-history c = λ name found.
    let old = c.args.numbers.now in
    let last = c.saturating_add-last.result in
    let new : ChangeNumbers = record { last = last; changed = old.changed; dropped = c.from_vec.result } in
    drop_history old new name c.saturating_add-last.ensures refl
    (drop_set old last c.into_vec-dropped.result.items c.from_vec.result c.args.place c.index_mut.result.now name (c.into_vec-dropped.ensures ∙ c.replace.ensures.value) c.index_mut.ensures.value c.from_vec.ensures found)

pub returns-clause-past : goal.returns-clause-past
returns-clause-past c = λ name found within past.
    let old = c.args.numbers.now in
    let last = c.saturating_add-last.result in
    let new : ChangeNumbers = record { last = last; changed = old.changed; dropped = c.from_vec.result } in
    drops_past old new name (subst (λ (n : ℕ). old.last ≤ n) (sym c.saturating_add-last.ensures) (not_less old.last within))
    (drop_set old last c.into_vec-dropped.result.items c.from_vec.result c.args.place c.index_mut.result.now name (c.into_vec-dropped.ensures ∙ c.replace.ensures.value) c.index_mut.ensures.value c.from_vec.ensures found) past
