use Rattle.std.proofs.Common.{ℕ, ◌+◌, length}
use Rattle.pair_changes.specs.inner.Left.{all_left, IsRead}
use Rattle.pair_changes.proofs.DifferLemmas.{Continues}
use Rattle.pair_changes.proofs.differing.difference_of.Given as goal

abbrev pub invariant-loop-id : goal.invariant-loop-id
invariant-loop-id l = record {
  going : (n : ℕ) × Continues l.old.entries l.new.entries l.changes n (all_left l.before) (all_left l.now);
  before_read : IsRead l.before;
  now_read : IsRead l.now;
}

abbrev pub decreases-loop-id : goal.decreases-loop-id
decreases-loop-id l = length (all_left l.before) + length (all_left l.now)
