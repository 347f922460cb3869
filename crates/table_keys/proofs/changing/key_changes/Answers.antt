use Rattle.std.proofs.Common.{ℕ, ◌<◌, List, take, get_or, length, ap, sym, ◌∙◌, subst}
use Rattle.row_store.specs.declared.change.Change.{Change}
use Rattle.row_store.specs.Changes.{IsAbove}
use Rattle.table_keys.proofs.LoopLemmas.{above_taken}
use Rattle.table_keys.proofs.KeyLaws.{keyed_above}
use Rattle.table_keys.proofs.changing.key_changes.Goals as goal

pub push-requires : goal.push-requires
push-requires c =
    let i = c.loop-change.change-index in
    let changes = c.args.changes.now in
    let one = c.change-item.result in
    let all = c.as_slice-change-items.ensures.all in
    let within = subst (λ (cs : List Change). i < length cs) all c.loop-change-test.true in
    let item = ap (λ (x : Change). x.id) (c.in_ok-key_change.ensures) ∙ ap (λ (x : Change). x.id) (c.change-item.is ∙ ap (λ (cs : List Change). get_or cs i one) all) in
    let above = above_taken 0 changes i one c.as_slice-change-items.ensures.rise within in
    subst (λ (cs : List Change). IsAbove cs c.in_ok-key_change.field-0.id) (sym c.loop-change.invariant)
    (keyed_above c.args.columns (take i changes) c.in_ok-key_change.field-0.id (subst (λ (id : ℕ). IsAbove (take i changes) id) (sym item) above))
