use Rattle.std.proofs.Common.{◌≡◌, ◌+◌, List, true, take, sym, ◌∙◌, subst}
use Rattle.std.proofs.lemmas.List.{take_all}
use Rattle.row_store.specs.declared.change.Change.{Change}
use Rattle.row_changes.specs.Touched.{AllPass}
use Rattle.operator_changes.specs.Footprint.{passes}
use Rattle.write_propagation.proofs.OwnLemmas.{pass_more}
use Rattle.write_propagation.proofs.parting.are_own.Goals as goal

pub loop-change-preserved : goal.loop-change-preserved
loop-change-preserved c =
    let P = passes c.args.ids.now c.args.next in
    let items = c.as_slice-change-items.result.now in
    let same = c.as_slice-change-items.ensures.all in
    let i = c.loop-change.change-index in
    subst (λ (l : List Change). AllPass P (take (i + 1) l)) same
    (pass_more P items i c.change-item.result c.loop-change-test.true (subst (λ (l : List Change). AllPass P (take i l)) (sym same) c.loop-change.invariant)
    (subst (λ (x : Change). P x.id ≡ true) c.change-item.is (c.is_own.ensures c.if-not-is_own.false)))

pub returns : goal.returns
returns c is =
    let P = passes c.args.ids.now c.args.next in
    let items = c.as_slice-change-items.result.now in
    let same = c.as_slice-change-items.ensures.all in
    let i = c.loop-change.change-index in
    subst (λ (l : List Change). AllPass P l) (take_all i items c.loop-change-test.false ∙ same) (subst (λ (l : List Change). AllPass P (take i l)) (sym same) c.loop-change.invariant)
