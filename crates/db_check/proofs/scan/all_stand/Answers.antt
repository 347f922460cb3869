use Rattle.std.proofs.Common.{List, [], ◌∷◌, get_or, take, inl, inr, refl, sym, ◌∙◌, subst}
use Rattle.std.proofs.lemmas.Bool.{false≢true}
use Rattle.std.proofs.lemmas.List.{take_all, take_more}
use Rattle.row_store.specs.States.{TableState}
use Rattle.version_graph.specs.Sets.{In}
use Rattle.version_graph.proofs.SetLaws.{in_append}
use Rattle.version_graph.proofs.WalkStepLaws.{in_at}
use Rattle.version_model.specs.declared.numbered.Numbered.{Numbered}
use Rattle.db_check.specs.inner.Tests.{MayStand}
use Rattle.db_check.proofs.scan.all_stand.Goals as goal

pub returns-then-not-may_stand : goal.returns-then-not-may_stand
returns-then-not-may_stand g c = (
  (λ h. absurd (false≢true h)),
  (λ each. absurd (false≢true (sym c.if-not-may_stand.true ∙ c.may_stand.ensures.1 (each c.item-item.result (subst (λ (x : Numbered TableState). In x c.args.stored.now) (sym c.item-item.is) (in_at c.args.stored.now c.loop-item.item-index c.item-item.result c.loop-item-test.true)))))),
)

pub loop-item-preserved : goal.loop-item-preserved
loop-item-preserved g c item j =
    let xs = c.args.stored.now in
    let i = c.loop-item.item-index in
    let one = c.item-item.result in
    elim (in_append item (take i xs) (get_or xs i one ∷ []) (subst (λ (l : List (Numbered TableState)). In item l) (take_more xs i one c.loop-item-test.true) j)) as (λ _. MayStand c.args.graph.now.edges c.args.next item) [
      | inl before ↦ c.loop-item.invariant item before
      | inr last ↦ elim last as (λ _. MayStand c.args.graph.now.edges c.args.next item) [
        | inl same ↦ subst (λ (x : Numbered TableState). MayStand c.args.graph.now.edges c.args.next x) (c.item-item.is ∙ sym same) (c.may_stand.ensures.0 c.if-not-may_stand.false)
        | inr none ↦ absurd none
      ]
    ]

pub returns : goal.returns
returns g c = (
  (λ h item j. c.loop-item.invariant item (subst (λ (l : List (Numbered TableState)). In item l) (sym (take_all c.loop-item.item-index c.args.stored.now c.loop-item-test.false)) j)),
  (λ each. refl),
)
