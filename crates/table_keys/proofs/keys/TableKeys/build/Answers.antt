use Rattle.std.proofs.Common.{List, [], Option, Some, ap, sym, ◌∙◌, subst}
use Rattle.row_store.specs.Rows.{Rows}
use Rattle.row_store.specs.Changes.{AreOld}
use Rattle.row_store.specs.declared.change.Change.{Change}
use Rattle.row_changes.specs.Changed.{changed}
use Rattle.table_keys.specs.declared.columns.KeyColumns.{KeyColumns}
use Rattle.table_keys.specs.Keys.{keys_by, keyed_changes}
use Rattle.table_keys.specs.States.{pending_after, ArePendingOld}
use Rattle.table_keys.proofs.KeyLaws.{keys_changed, keys_old}
use Rattle.table_keys.proofs.keys.TableKeys.build.Goals as goal

pub commit-requires : goal.commit-requires
commit-requires c =
    let cs = c.in_ok-changes.changes in
    let by = c.args.columns in
    let ready = c.in_ok-prepare.ensures.ok ∙ ap (λ (k : KeyColumns). Some (keyed_changes k cs)) c.new-made.ensures.columns in
    let none = c.in_ok-prepare.ensures.rows ∙ c.new-made.ensures.rows in
    let old = keys_old by [] cs (subst (λ (rows : Rows). AreOld rows cs) c.new.ensures c.in_ok-changes.ensures.old) in
    subst (λ (p : Option (List Change)). ArePendingOld c.prepare.new.self.rows p) (sym ready)
    (subst (λ (rows : Rows). AreOld rows (keyed_changes by cs)) (sym none) old)

pub returns-clause-rows : goal.returns-clause-rows
returns-clause-rows c =
    let cs = c.in_ok-changes.changes in
    let by = c.args.columns in
    let ready = c.in_ok-prepare.ensures.ok ∙ ap (λ (k : KeyColumns). Some (keyed_changes k cs)) c.new-made.ensures.columns in
    let none = c.in_ok-prepare.ensures.rows ∙ c.new-made.ensures.rows in
    c.commit.ensures.rows
    ∙ ap (pending_after c.prepare.new.self.rows) ready
    ∙ ap (λ (rows : Rows). changed rows (keyed_changes by cs)) none
    ∙ sym (keys_changed by [] cs)
    ∙ ap (keys_by by) (ap (λ (rows : Rows). changed rows cs) (sym c.new.ensures) ∙ c.in_ok-changes.ensures.new)
