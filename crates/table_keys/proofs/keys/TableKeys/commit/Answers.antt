use Rattle.std.proofs.Common.{◌≡◌, List, Option, Some, ap, sym, ◌∙◌, subst}
use Rattle.row_store.specs.Rows.{Rows}
use Rattle.row_store.specs.declared.change.Change.{Change}
use Rattle.row_changes.specs.Changed.{changed}
use Rattle.row_changes.proofs.ChangedLaws.{changed_is}
use Rattle.table_keys.specs.States.{pending_after, KeysState}
use Rattle.table_keys.specs.inner.Ready.{AreReady}
use Rattle.table_keys.proofs.keys.TableKeys.commit.Goals as goal

pub invariant_of-self : goal.invariant_of-self
invariant_of-self c =
    let by_key = c.apply.ensures.changed in
    let by_id = c.apply-in-Some.ensures.applied in
    let none = c.take.ensures.after in (
      changed_is _ c.in-Some.changes _ by_key.rises by_key.changed
          ∙ ap (λ (rows : Rows). changed rows c.in-Some.changes) c.self.invariant.0
          ∙ sym (changed_is _ c.in-Some.changes _ by_id.rises by_id.changed),
      subst (λ (p : Option (List Change)). AreReady c.apply-in-Some.new.self.spare c.apply.new.self.ready p) (sym none) tt,
    )

pub returns-in-Some-clause-rows : goal.returns-in-Some-clause-rows
returns-in-Some-clause-rows c =
    let by_id = c.apply-in-Some.ensures.applied in
    let value = c.take.ensures.value in
    let is = c.in-Some.is in
    let pending : c.self.inside.pending ≡ Some c.in-Some.changes = cc in
    subst (λ (x : KeysState). c.apply-in-Some.new.self.rows ≡ pending_after x.rows x.pending) c.self.view_is
    (changed_is _ c.in-Some.changes _ by_id.rises by_id.changed ∙ ap (pending_after c.self.inside.keys.rows) (sym pending))
