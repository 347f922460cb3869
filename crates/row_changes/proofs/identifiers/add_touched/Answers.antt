use Rattle.std.proofs.Common.{ℕ, List, get_or, ap, sym, ◌∙◌, subst}
use Rattle.row_store.specs.declared.change.Change.{Change}
use Rattle.op_rows.specs.inner.CellLemmas.{IdsRise}
use Rattle.row_changes.specs.Touched.{touched_in}
use Rattle.row_changes.proofs.LoopLemmas.{touched_next}
use Rattle.row_changes.proofs.TouchedLaws.{rise_touched}
use Rattle.row_changes.proofs.identifiers.add_touched.Goals as goal

pub loop-one-preserved : goal.loop-one-preserved
loop-one-preserved c =
    let before = c.loop-one.invariant in
    let i = c.loop-one.one-index in
    let one = c.one-item.result in
    let slice = c.as_slice-in-loop-one.ensures in
    let merged = c.in_ok-all.ensures in
    record {
      rise = subst (IdsRise 0) (sym merged) (rise_touched c.as_slice-in-loop-one.result.now c.as_slice.result.now (subst (IdsRise 0) (sym c.as_slice.ensures) before.rise));
      so_far = merged ∙ ap (λ (cs : List Change). touched_in cs c.as_slice.result.now) (slice.all ∙ c.one-item.is)
          ∙ ap (λ (ids : List ℕ). touched_in (get_or c.args.changes.now i one) ids) (c.as_slice.ensures ∙ before.so_far)
          ∙ sym (touched_next c.args.changes.now i one c.args.ids c.loop-one-test.true);
    }
