use Rattle.std.proofs.Common.{◌≡◌, take}
use Rattle.change_feed.specs.inner.Live.{each_taken, made_ready}
use Rattle.change_feed.proofs.passes.prepare_each.Given as goal

abbrev pub invariant-loop-at : goal.invariant-loop-at
invariant-loop-at g l = l.watchers ≡ each_taken (made_ready l.notes) (take l.at l.taken) l.fn.watchers
