use Rattle.std.proofs.Common.{sym, ◌∙◌, subst}
use Rattle.op_law.specs.Identifiers.{IdsRise}
use Rattle.op_rows.specs.inner.CellLemmas.{rise_in}
use Rattle.row_changes.proofs.differing.ids_of_both.Goals as goal

pub merge_ids-requires-2 : goal.merge_ids-requires-2
merge_ids-requires-2 c =
    let none : IdsRise 0 c.as_slice.result.now = subst (IdsRise 0) (sym (c.as_slice.ensures ∙ c.new-none.ensures)) tt in
    subst (IdsRise 0) (sym (c.as_slice-2.ensures ∙ c.in_ok-first.ensures.value)) (rise_in 0 c.args.before.now.rows c.as_slice.result.now c.in_ok-first.ensures.rise none)
