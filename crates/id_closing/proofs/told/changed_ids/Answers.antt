use Rattle.std.proofs.Common.{◌==◌, ◌++◌, [], ◌∷◌, List, Bool, true, cond, take, ap, refl, sym, ◌∙◌, arith}
use Rattle.row_store.specs.declared.change.Change.{Change}
use Rattle.std.proofs.lemmas.List.{take_more, take_all}
use Rattle.op_law.proofs.IdentifierLaws.{has_put}
use Rattle.id_closing.specs.Told.{is_changed}
use Rattle.id_closing.proofs.ToldLaws.{named_more}
use Rattle.id_closing.proofs.told.changed_ids.Goals as goal

pub loop-change-init : goal.loop-change-init
loop-change-init c q = rw c.new-ids.ensures refl

pub loop-change-preserved : goal.loop-change-preserved
loop-change-preserved c q =
    let cs = c.args.changes.now in
    let i = c.loop-change.change-index in
    let d = c.change-item.result in
    let taken = take_more cs i d c.loop-change-test.true ∙ ap (λ (x : Change). take i cs ++ x ∷ []) (sym c.change-item.is) in
    rw c.in_ok-insert.ensures.ok
    (has_put d.id c.loop-change.ids q ∙ ap (λ (b : Bool). cond (d.id == q) true b) (c.loop-change.invariant q) ∙ sym (named_more (take i cs) d q)
    ∙ ap (λ (xs : List Change). is_changed xs q) (sym taken))

pub returns : goal.returns
returns c q =
    c.loop-change.invariant q ∙ ap (λ (xs : List Change). is_changed xs q) (take_all c.loop-change.change-index c.args.changes.now (omega (arith, c.loop-change-test.false)))
