use Rattle.std.proofs.Common.{◌≡◌, take}
use Rattle.op_law.specs.Tables.{contents}
use Rattle.op_law.specs.Identifiers.{ids_over}
use Rattle.op_rows.specs.inner.CellLemmas.{IdsRise, AllRise}
use Rattle.op_rows.proofs.ids.add_ids.Given as goal

abbrev pub invariant-loop-table : goal.invariant-loop-table
invariant-loop-table l = record {
  rise : IdsRise 0 l.all;
  so_far : l.all ≡ ids_over (contents (take l.table-index l.tables)) l.fn.ids;
  tables : AllRise (contents (take l.table-index l.tables));
}
