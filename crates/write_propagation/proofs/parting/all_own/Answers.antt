use Rattle.std.proofs.Common.{List, subst}
use Rattle.std.proofs.lemmas.List.{take_all}
use Rattle.row_store.specs.declared.change.Change.{Change}
use Rattle.row_changes.specs.Touched.{AllPass}
use Rattle.operator_changes.specs.Footprint.{passes}
use Rattle.changes_walk.specs.Changing.{latest_changes}
use Rattle.version_model.specs.declared.numbered.Numbered.{Numbered}
use Rattle.write_propagation.proofs.OwnLemmas.{all_more}
use Rattle.write_propagation.proofs.parting.all_own.Goals as goal

pub loop-item-preserved : goal.loop-item-preserved
loop-item-preserved c =
    let P = passes c.args.ids.now c.args.next in
    let item = c.item-item.result in
    all_more P c.args.made.now c.loop-item.item-index item c.loop-item-test.true c.loop-item.invariant
    (subst (λ (x : Numbered (List Change)). AllPass P x.value) c.item-item.is (c.are_own.ensures c.if-not-are_own.false))

pub returns : goal.returns
returns c is t =
    subst (λ (l : List (Numbered (List Change))). AllPass (passes c.args.ids.now c.args.next) (latest_changes l t)) (take_all c.loop-item.item-index c.args.made.now c.loop-item-test.false) (c.loop-item.invariant t)
