use Rattle.std.proofs.Common.{ℕ, List, sym, ◌∙◌, subst}
use Rattle.row_store.specs.Rows.{row_of}
use Rattle.op_law.specs.Identifiers.{IdsRise}
use Rattle.row_changes.specs.Picked.{Picks}
use Rattle.row_changes.proofs.PickLaws.{both_rise, both_differ}
use Rattle.row_changes.proofs.differing.difference.Goals as goal

pub difference_at-requires : goal.difference_at-requires
difference_at-requires c =
    subst (IdsRise 0) (sym (c.as_slice.ensures ∙ c.in_ok-ids.ensures.value)) (both_rise c.args.before.now.rows c.args.now.now.rows c.in_ok-ids.ensures.rise)

pub returns : goal.returns
returns c =
    let before = c.args.before.now.rows in
    let now = c.args.now.now.rows in
    let made = c.in_ok-difference_at.field-0 in
    both_differ before now made c.in_ok-ids.ensures.rise
    (subst (λ (ids : List ℕ). Picks (row_of before) (row_of now) ids made) (c.as_slice.ensures ∙ c.in_ok-ids.ensures.value) c.in_ok-difference_at.ensures)
