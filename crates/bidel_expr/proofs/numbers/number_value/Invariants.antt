use Rattle.std.proofs.Common.{◌≡◌, ◌≤◌, drop}
use Rattle.bidel_expr.specs.Lexemes.{value_after}
use Rattle.bidel_expr.proofs.numbers.number_value.Given as goal

abbrev pub invariant-loop-digit : goal.invariant-loop-digit
invariant-loop-digit l = record {
  same : value_after l.value (drop l.digit-index l.digits) ≡ value_after 0 l.digits;
  small : l.value ≤ l.most;
}
