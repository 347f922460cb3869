use Rattle.std.proofs.Common.{◌++◌, [], ◌∷◌, List, Bool, take, refl, ap, sym, ◌∙◌, arith}
use Rattle.std.proofs.lemmas.List.{take_more, take_all}
use Rattle.row_store.specs.declared.change.Change.{Change}
use Rattle.outer_closing.specs.Shared.{is_replaced, or_replaced}
use Rattle.outer_closing.proofs.ReplacedLemmas.{replaced_more}
use Rattle.outer_closing.proofs.replaced.replaced_ids.Goals as goal

pub loop-change-init : goal.loop-change-init
loop-change-init c q = rw c.new-ids.ensures refl

pub loop-change-preserved : goal.loop-change-preserved
loop-change-preserved c q =
    let cs = c.args.changes.now in
    let i = c.loop-change.change-index in
    let d = c.change-item.result in
    let taken = take_more cs i d c.loop-change-test.true ∙ ap (λ (x : Change). take i cs ++ x ∷ []) (sym c.change-item.is) in
    c.in_ok-put_replaced.ensures q ∙ ap (λ (b : Bool). or_replaced d q b) (c.loop-change.invariant q) ∙ sym (replaced_more (take i cs) d q) ∙ ap (λ (xs : List Change). is_replaced xs q) (sym taken)

pub returns : goal.returns
returns c q =
    c.loop-change.invariant q ∙ ap (λ (xs : List Change). is_replaced xs q) (take_all c.loop-change.change-index c.args.changes.now (omega (arith, c.loop-change-test.false)))
