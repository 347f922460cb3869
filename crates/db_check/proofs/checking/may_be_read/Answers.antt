use Rattle.std.proofs.Common.{ℕ, List, sym, ap, ◌∙◌, subst}
use Rattle.std.proofs.lemmas.Bool.{false≢true}
use Rattle.std.specs.List.{list_all}
use Rattle.row_store.specs.States.{TableState}
use Rattle.id_memory.specs.States.{MemoryState}
use Rattle.op_law.specs.Sound.{PairsSound}
use Rattle.version_graph.specs.Sets.{In}
use Rattle.version_model.specs.declared.numbered.Numbered.{Numbered}
use Rattle.db_check.specs.inner.Tests.{MayStand, Tells, may_remember}
use Rattle.db_check.proofs.EndLemmas.{database_remembers, database_stands, well_remembered, well_stored}
use Rattle.db_check.proofs.ListLemmas.{all_tell}
use Rattle.db_check.proofs.TestLemmas.{pairs_tell}
use Rattle.db_check.proofs.checking.may_be_read.Goals as goal

pub returns-then-all_stand : goal.returns-then-all_stand
returns-then-all_stand g c =
    let p = c.args.parts.now in
    let n = c.next-next.ensures.value in
    let stand = subst (λ (l : List (Numbered TableState)). Tells c.all_stand.result ((item : Numbered TableState) → In item l → MayStand p.graph.edges p.ids.next item)) c.as_slice.ensures
    (subst (λ (k : ℕ). Tells c.all_stand.result ((item : Numbered TableState) → In item c.as_slice.result.now → MayStand p.graph.edges k item)) n c.all_stand.ensures) in
    let same = c.all_remember.ensures ∙ ap (λ (k : ℕ). list_all (may_remember k) c.as_slice-then-all_stand.result.now) n ∙ ap (λ (l : List (Numbered MemoryState)). list_all (may_remember p.ids.next) l) c.as_slice-then-all_stand.ensures in
    let remember = all_tell (may_remember p.ids.next) (λ (item : Numbered MemoryState). PairsSound p.ids.next item.value.entries) (λ item. pairs_tell p.ids.next item.value.entries) p.memories in (
      (λ h. (record { built = c.requires; listed = c.in_ok-is_listed.ensures.0 c.if-not-branch.false; memories = well_remembered p (remember.0 (sym same ∙ h)) }, well_stored p (stand.0 c.if-all_stand.true))),
      (λ is. same ∙ remember.1 (database_remembers g.O.Operator.meaning p is)),
    )

pub returns-else-all_stand : goal.returns-else-all_stand
returns-else-all_stand g c =
    let p = c.args.parts.now in
    let n = c.next-next.ensures.value in
    let stand = subst (λ (l : List (Numbered TableState)). Tells c.all_stand.result ((item : Numbered TableState) → In item l → MayStand p.graph.edges p.ids.next item)) c.as_slice.ensures
    (subst (λ (k : ℕ). Tells c.all_stand.result ((item : Numbered TableState) → In item c.as_slice.result.now → MayStand p.graph.edges k item)) n c.all_stand.ensures) in (
      (λ h. absurd (false≢true (sym c.if-all_stand.false ∙ h))),
      (λ is. stand.1 (database_stands g.O.Operator.meaning p is)),
    )
