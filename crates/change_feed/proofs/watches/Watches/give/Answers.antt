use Rattle.std.proofs.Common.{sym, ap, subst, ◌∙◌}
use Rattle.change_feed.specs.Watchers.{IsFresh}
use Rattle.change_feed.specs.Watches.{given}
use Rattle.change_feed.proofs.LiveLemmas.{push_watches, push_view}
use Rattle.change_feed.proofs.watches.Watches.give.Goals as goal

pub invariant_of-self-2 : goal.invariant_of-self-2
invariant_of-self-2 g c = push_watches c.self.inside.taken c.self.inside.watchers c.push.new.self c.new.result c.self.invariant (subst IsFresh (sym c.new.ensures) c.requires) c.in_ok-push.ensures.ok

pub returns-clause-ok : goal.returns-clause-ok
returns-clause-ok g c =
    push_view c.self.inside.taken c.self.inside.watchers c.push.new.self c.new.result c.self.inside.last c.args.self.now c.self.invariant c.self.view_is c.in_ok-push.ensures.ok
    ∙ ap (λ x. given x c.args.self.now) c.new.ensures
