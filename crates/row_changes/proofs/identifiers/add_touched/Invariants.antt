use Rattle.std.proofs.Common.{◌≡◌, take}
use Rattle.op_rows.specs.inner.CellLemmas.{IdsRise}
use Rattle.row_changes.specs.Touched.{touched_over}
use Rattle.row_changes.proofs.identifiers.add_touched.Given as goal

abbrev pub invariant-loop-one : goal.invariant-loop-one
invariant-loop-one l = record {
  rise : IdsRise 0 l.all;
  so_far : l.all ≡ touched_over (take l.one-index l.changes) l.fn.ids;
}
