use Rattle.std.proofs.Common.{sym, ap, subst, ◌∙◌}
use Rattle.change_feed.specs.Watches.{AllMayPrepare}
use Rattle.change_feed.specs.inner.Live.{each_taken, made_ready, EachMay}
use Rattle.change_feed.proofs.LiveLemmas.{may_live, each_view, each_watches}
use Rattle.change_feed.proofs.watches.Watches.prepare_all.Goals as goal

pub prepare_each-requires-clause-may : goal.prepare_each-requires-clause-may
prepare_each-requires-clause-may g c =
    subst (λ ts. EachMay c.args.notes.now ts c.self.inside.watchers) (sym c.as_slice.ensures)
    (may_live c.args.notes.now c.self.inside.taken c.self.inside.watchers (subst (λ s. AllMayPrepare c.args.notes.now s.live) (sym c.self.view_is) c.requires))

pub invariant_of-self-2 : goal.invariant_of-self-2
invariant_of-self-2 g c = each_watches (made_ready c.args.notes.now) c.self.inside.taken c.self.inside.watchers c.prepare_each.new.watchers c.self.invariant (c.in_ok-prepare_each.ensures.ok ∙ ap (λ ts. each_taken (made_ready c.args.notes.now) ts c.self.inside.watchers) c.as_slice.ensures)

pub returns-clause-ok : goal.returns-clause-ok
returns-clause-ok g c = each_view (made_ready c.args.notes.now) c.self.inside.taken c.self.inside.watchers c.prepare_each.new.watchers c.self.inside.last c.args.self.now c.self.view_is (c.in_ok-prepare_each.ensures.ok ∙ ap (λ ts. each_taken (made_ready c.args.notes.now) ts c.self.inside.watchers) c.as_slice.ensures)
