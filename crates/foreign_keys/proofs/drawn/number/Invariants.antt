use Rattle.std.proofs.Common.{◌≡◌, ◌+◌, ◌≤◌, take}
use Rattle.op_law.specs.Calls.{first_refused}
use Rattle.foreign_keys.specs.DrawnIds.{numbered}
use Rattle.foreign_keys.proofs.drawn.number.Given as goal

abbrev pub invariant-loop-value : goal.invariant-loop-value
invariant-loop-value l = record {
  rows : l.table.rows ≡ numbered l.fn.ids.next (take l.value-index l.values);
  next : l.left ≡ record l.fn.ids { next = l.fn.ids.next + l.value-index };
  within : l.fn.ids.next + l.value-index ≤ first_refused l.fn.ids;
}
