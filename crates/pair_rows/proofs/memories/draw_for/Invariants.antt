use Rattle.std.proofs.Common.{◌≡◌, ◌+◌, ◌≤◌, take}
use Rattle.op_law.specs.Calls.{first_refused}
use Rattle.pair_rows.specs.Shown.{numbered}
use Rattle.pair_rows.proofs.memories.draw_for.Given as goal

abbrev pub invariant-loop-pair : goal.invariant-loop-pair
invariant-loop-pair l = record {
  made : l.made ≡ numbered l.fn.ids.next (take l.pair-index l.pairs);
  next : l.ids ≡ record l.fn.ids { next = l.fn.ids.next + l.pair-index };
  within : l.fn.ids.next + l.pair-index ≤ first_refused l.fn.ids;
}
