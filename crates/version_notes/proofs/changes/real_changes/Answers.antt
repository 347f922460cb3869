-- The changes before the next one are below it.
use Rattle.std.proofs.Common.{ℕ, ◌<◌, List, filter, take, get_or, length, ap, sym, ◌∙◌, subst}
use Rattle.row_store.specs.declared.change.Change.{Change}
use Rattle.row_store.specs.Changes.{IsAbove}
use Rattle.write_plans.specs.Told.{is_change}
use Rattle.version_notes.proofs.ListLemmas.{above_taken}
use Rattle.version_notes.proofs.changes.real_changes.Goals as goal

pub push-requires : goal.push-requires
push-requires c =
    let i = c.loop-change.change-index in
    let changes = c.args.changes.now in
    let one = c.change-item.result in
    let all = c.as_slice-change-items.ensures.all in
    let within = subst (λ (cs : List Change). i < length cs) all c.loop-change-test.true in
    let item = c.in_ok-copy_change.ensures ∙ c.change-item.is ∙ ap (λ (cs : List Change). get_or cs i one) all in
    let above = above_taken is_change changes i one c.as_slice-change-items.ensures.rise within in
    subst (λ (cs : List Change). IsAbove cs c.in_ok-copy_change.field-0.id) (sym c.loop-change.invariant)
    (subst (λ (id : ℕ). IsAbove (filter is_change (take i changes)) id) (sym (ap (λ (x : Change). x.id) item)) above)
