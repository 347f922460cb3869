use Rattle.std.proofs.Common.{◌==◌, List, ℕ, Bool, true, cond, take, get_or, ap, refl, sym, ◌∙◌, arith}
use Rattle.std.proofs.lemmas.List.{take_more, take_all}
use Rattle.op_law.specs.Identifiers.{has_id}
use Rattle.op_law.proofs.IdentifierLaws.{has_put}
use Rattle.cond_closing.proofs.ShownLemmas.{end_eq}
use Rattle.cond_closing.proofs.shown.set_of.Goals as goal

pub loop-id-init : goal.loop-id-init
loop-id-init c q = rw c.new-made.ensures refl

pub loop-id-preserved : goal.loop-id-preserved
loop-id-preserved c q =
    let ids = c.args.ids.now in
    let i = c.loop-id.id-index in
    let d = get_or ids i 0 in
    rw c.in_ok-insert.ensures.ok
    (has_put d c.loop-id.made q ∙ ap (λ (b : Bool). cond (d == q) true b) (c.loop-id.invariant q) ∙ sym (end_eq (take i ids) d q)
    ∙ ap (λ (xs : List ℕ). has_id xs q) (sym (take_more ids i 0 c.loop-id-test.true)))

pub returns : goal.returns
returns c q =
    c.loop-id.invariant q ∙ ap (λ (xs : List ℕ). has_id xs q) (take_all c.loop-id.id-index c.args.ids.now (omega (arith, c.loop-id-test.false)))
