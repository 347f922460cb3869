use Rattle.std.proofs.Common.{◌≡◌}
use Rattle.row_store.proofs.same.are_same.Given as goal

abbrev pub invariant-loop-row : goal.invariant-loop-row
invariant-loop-row l = record {
  to : l.row-iterator ≡ l.others → l.fn.some ≡ l.fn.other;
  from : l.fn.some ≡ l.fn.other → l.row-iterator ≡ l.others;
}
