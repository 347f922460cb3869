use Rattle.std.proofs.Common.{◌≡◌, ◌<◌, ℕ}
use Rattle.db_check.specs.inner.Spans.{IsGoodAt}
use Rattle.db_check.proofs.spanning.admit_spans.Given as goal

abbrev pub invariant-loop-end : goal.invariant-loop-end
invariant-loop-end g l = record {
  same : l.parts ≡ l.fn.parts;
  good : (id : ℕ) → id < l.low → IsGoodAt g.O.Operator.meaning l.fn.parts id;
}
