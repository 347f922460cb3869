-- The runs are settled, and none is left.
use Rattle.std.proofs.Common.{List, refl, sym, ap, subst, ◌∙◌}
use Rattle.version_model.specs.Kept.{numbers_in}
use Rattle.engine_sessions.specs.WriteUndo.{Undo}
use Rattle.engine_transactions.specs.Executing.{HasSettled, HaveNumbers}
use Rattle.engine_transactions.specs.declared.executing.Executing.{Executing}
use Rattle.engine_transactions.proofs.SettleLemmas.{have_turned, is_settled, shows_settled}
use Rattle.engine_transactions.proofs.executing.ExecutingExecutor.settle.Goals as goal

pub returns : goal.returns
returns c = λ s h.
    let old = c.args.self.now in
    let new : Executing = record { sessions = old.sessions; numbers = c.settle_numbers.new.numbers; unsettled = c.replace-undos.new.dest } in
    let undos = c.as_slice.ensures.value ∙ ap (λ v. v.items) c.replace-undos.ensures.value in
    let have = have_turned (numbers_in old.numbers.changed) old.unsettled.items h.numbers in
    let settled : HasSettled old.numbers old.unsettled.items new.numbers =
    subst (λ (l : List Undo). HasSettled old.numbers l new.numbers) undos (c.settle_numbers.ensures (subst (λ (l : List Undo). HaveNumbers (numbers_in old.numbers.changed) l) (sym undos) have)) in
    let none = ap (λ v. v.items) c.replace-undos.ensures.after ∙ c.new.ensures.items in
    (_, (is_settled old new s h settled, shows_settled old new s h settled refl none))
