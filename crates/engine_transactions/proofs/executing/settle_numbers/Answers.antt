-- One more run is settled.
use Rattle.std.proofs.Common.{◌++◌, [], ◌∷◌, if◌then◌else◌, ℕ, List, take, sym, ap, subst, ◌∙◌}
use Rattle.std.proofs.lemmas.List.{take_more}
use Rattle.version_graph.specs.Edges.{is_in}
use Rattle.version_graph.specs.Sets.{In, Within}
use Rattle.version_graph.proofs.SetLaws.{each_at}
use Rattle.version_model.specs.Kept.{numbers_in}
use Rattle.engine_sessions.specs.WriteUndo.{Undo}
use Rattle.engine_transactions.specs.Executing.{is_changed_by}
use Rattle.tx_history.specs.History.{number_in}
use Rattle.tx_history.proofs.NumberLaws.{in_item}
use Rattle.engine_transactions.proofs.SettleLemmas.{changed_more, none_settled}
use Rattle.engine_transactions.proofs.executing.settle_numbers.Goals as goal

pub returns-then-not-has_changes : goal.returns-then-not-has_changes
returns-then-not-has_changes c = λ have. none_settled c.args.numbers.now c.args.undos.now (sym c.has_changes.ensures ∙ c.if-not-has_changes.true)

pub loop-undo-preserved : goal.loop-undo-preserved
loop-undo-preserved c =
    let inv = c.loop-undo.invariant in
    let all = c.args.undos.now in
    let at = c.loop-undo.undo-index in
    let u = c.undo-item.result in
    let old = c.args.numbers.now.changed in
    let last = c.saturating_add-last.result in
    let taken = take_more all at u c.loop-undo-test.true ∙ ap (λ (x : Undo). take at all ++ x ∷ []) (sym c.undo-item.is) in
    let stands : In u all = subst (λ (x : Undo). In x all) (sym c.undo-item.is) (in_item all at u c.loop-undo-test.true) in
    record {
      rows = λ have t.
          let own : Within u.changed (numbers_in old) = each_at (λ (x : Undo). Within x.changed (numbers_in old)) all u stands have in
          let kept : Within u.changed (numbers_in c.loop-undo.changed.items) = subst (λ (l : List ℕ). Within u.changed l) (sym inv.numbers) own in
          c.set_numbers.ensures.rows (subst (λ (l : List ℕ). Within l (numbers_in c.loop-undo.changed.items)) (sym c.as_slice.ensures) kept) t
          ∙ ap (λ (l : List ℕ). if is_in t l then last else number_in c.loop-undo.changed.items t) c.as_slice.ensures
          ∙ ap (λ (n : ℕ). if is_in t u.changed then last else n) (inv.rows have t)
          ∙ changed_more (take at all) u t last (number_in old t)
          ∙ ap (λ (l : List Undo). if is_changed_by l t then last else number_in old t) (sym taken);
      numbers = c.set_numbers.ensures.numbers ∙ inv.numbers;
    }
