use Rattle.std.proofs.Common.{◌≡◌, ◌≤◌, ◌+◌, ◌*◌, take}
use Rattle.op_law.specs.Tables.{contents}
use Rattle.op_rows.specs.Cells.{tables_from}
use Rattle.op_rows.proofs.pass.tabulate.Given as goal

abbrev pub invariant-loop-id : goal.invariant-loop-id
invariant-loop-id g l = record {
  made : contents l.tables.items ≡ tables_from l.count (take l.id-index l.ids) (g.M.MakesCells.made l.each);
  steps : l.steps ≤ l.fn.steps + g.M.MakesCells.most l.each * l.id-index;
}
