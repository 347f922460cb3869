use Rattle.std.proofs.Common.{◌≡◌, map}
use Rattle.change_feed.specs.Watches.{AllFresh}
use Rattle.inverda_run.specs.Starts.{all_waiting}
use Rattle.inverda_run.proofs.waiting.with_watchers.Given as goal

-- those that came wait, and the others are fresh
abbrev pub invariant-loop-watcher : goal.invariant-loop-watcher
invariant-loop-watcher g l = record {
  waiting : l.watched ≡ record { transactions = l.fn.transactions; watches = all_waiting (map g.W.Watcher.seen l.yielded) };
  fresh : AllFresh (map g.W.Watcher.seen l.watcher-iterator.rest.items);
}
