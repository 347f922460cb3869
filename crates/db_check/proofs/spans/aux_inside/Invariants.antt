use Rattle.std.proofs.Common.{◌≡◌, take}
use Rattle.op_law.specs.Tables.{AllRise, contents}
use Rattle.op_law.specs.Local.{only}
use Rattle.db_check.specs.inner.Spans.{in_span}
use Rattle.db_check.proofs.spans.aux_inside.Given as goal

abbrev pub invariant-loop-table : goal.invariant-loop-table
invariant-loop-table l = record {
  part : contents l.tables ≡ only (in_span l.span) (contents (take l.table-index l.table-items));
  rise : AllRise (contents (take l.table-index l.table-items));
}
