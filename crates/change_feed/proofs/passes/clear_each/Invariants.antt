use Rattle.std.proofs.Common.{◌≡◌, ℕ, List, take}
use Rattle.change_feed.specs.Watchers.{with_cleared}
use Rattle.change_feed.specs.inner.Live.{each_taken}
use Rattle.change_feed.proofs.passes.clear_each.Given as goal

abbrev pub invariant-loop-at : goal.invariant-loop-at
invariant-loop-at g l = l.watchers ≡ each_taken (λ (_ : List ℕ). with_cleared) (take l.at l.taken) l.fn.watchers
