use Rattle.std.proofs.Common.{◌+◌, ◌<◌, length, drop, sym, ap, subst, ◌∙◌, slice_get}
use Rattle.change_feed.specs.Watches.{with_first}
use Rattle.change_feed.specs.Places.{PutsAt}
use Rattle.change_feed.proofs.LiveLemmas.{first_may, take_watches, take_view}
use Rattle.change_feed.proofs.watches.Watches.watch.Goals as goal

pub begin-requires : goal.begin-requires
begin-requires g c =
    let some : 0 < length (drop (length c.self.inside.taken) c.self.inside.watchers) = subst (λ s. 0 < length s.waiting) (sym c.self.view_is) c.requires.can.0 in
    let h = first_may c.self.inside.taken c.self.inside.watchers c.args.first.now c.self.invariant some c.requires.fits in
    (h.0, ap (λ n. slice_get c.self.inside.watchers n) c.len-at.ensures ∙ h.1, h.2)

pub invariant_of-self-2 : goal.invariant_of-self-2
invariant_of-self-2 g c =
    let some : 0 < length (drop (length c.self.inside.taken) c.self.inside.watchers) = subst (λ s. 0 < length s.waiting) (sym c.self.view_is) c.requires.can.0 in
    take_watches c.self.inside.taken c.push.new.self (record { number = c.self.inside.last + 1; version = c.args.version }) c.self.inside.watchers c.begin.new.watchers (with_first c.args.first.now) c.self.invariant some c.in_ok-push.ensures.ok
    (subst (λ n. PutsAt c.self.inside.watchers n (with_first c.args.first.now) c.begin.new.watchers) c.len-at.ensures c.in_default.ensures.ok)

pub returns-clause-ok : goal.returns-clause-ok
returns-clause-ok g c =
    let some : 0 < length (drop (length c.self.inside.taken) c.self.inside.watchers) = subst (λ s. 0 < length s.waiting) (sym c.self.view_is) c.requires.can.0 in
    take_view c.self.inside.taken c.push.new.self (record { number = c.self.inside.last + 1; version = c.args.version }) c.self.inside.watchers c.begin.new.watchers c.args.first.now c.self.inside.last c.args.self.now some c.self.view_is c.in_ok-push.ensures.ok (λ _. c.self.inside.last + 1)
    (subst (λ n. PutsAt c.self.inside.watchers n (with_first c.args.first.now) c.begin.new.watchers) c.len-at.ensures c.in_default.ensures.ok)
