use Rattle.std.proofs.Common.{◌<◌, length, ap, arith}
use Rattle.change_feed.proofs.LiveLemmas.{live_len, remove_watches, remove_view}
use Rattle.change_feed.proofs.watches.Watches.remove_at.Goals as goal

pub remove-requires : goal.remove-requires
remove-requires g c = omega (arith, c.requires, ap (λ s. length s.live) c.self.view_is, live_len c.self.inside.taken c.self.inside.watchers c.self.invariant.0)

pub remove-requires-2 : goal.remove-requires-2
remove-requires-2 g c = omega (arith, c.requires, ap (λ s. length s.live) c.self.view_is, live_len c.self.inside.taken c.self.inside.watchers c.self.invariant.0, c.self.invariant.0)

pub invariant_of-self : goal.invariant_of-self
invariant_of-self g c =
    let less : c.args.at < length c.self.inside.taken = omega (arith, c.requires, ap (λ s. length s.live) c.self.view_is, live_len c.self.inside.taken c.self.inside.watchers c.self.invariant.0) in
    remove_watches c.self.inside.taken c.remove.new.self c.self.inside.watchers c.remove-2.new.self c.args.at c.self.invariant less c.remove.ensures.rest c.remove-2.ensures

pub returns : goal.returns
returns g c =
    let less : c.args.at < length c.self.inside.taken = omega (arith, c.requires, ap (λ s. length s.live) c.self.view_is, live_len c.self.inside.taken c.self.inside.watchers c.self.invariant.0) in
    remove_view c.self.inside.taken c.remove.new.self c.self.inside.watchers c.remove-2.new.self c.args.at c.self.inside.last c.args.self.now c.self.invariant c.self.view_is less c.remove.ensures.rest c.remove-2.ensures
