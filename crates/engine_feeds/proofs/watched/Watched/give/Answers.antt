-- The watches stay quiet.
use Rattle.engine_feeds.proofs.AskLemmas.{give_kept}
use Rattle.engine_feeds.proofs.watched.Watched.give.Goals as goal

pub invariant_of-self-2 : goal.invariant_of-self-2
invariant_of-self-2 g c = give_kept c.self.inside.kept c.self.inside.watches c.give.new.self (g.W.Watcher.seen c.args.watcher) c.self.invariant c.requires c.in_ok-give.ensures.ok
