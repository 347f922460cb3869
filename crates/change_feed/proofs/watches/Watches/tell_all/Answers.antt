use Rattle.std.proofs.Common.{ℕ, List, ap, ◌∙◌}
use Rattle.change_feed.specs.Watchers.{with_told}
use Rattle.change_feed.specs.inner.Live.{each_taken}
use Rattle.change_feed.proofs.LiveLemmas.{each_view, each_watches}
use Rattle.change_feed.proofs.watches.Watches.tell_all.Goals as goal

pub invariant_of-self : goal.invariant_of-self
invariant_of-self g c = each_watches (λ (_ : List ℕ). with_told) c.self.inside.taken c.self.inside.watchers c.tell_each.new.watchers c.self.invariant (c.tell_each.ensures ∙ ap (λ ts. each_taken (λ (_ : List ℕ). with_told) ts c.self.inside.watchers) c.as_slice.ensures)

pub returns : goal.returns
returns g c = each_view (λ (_ : List ℕ). with_told) c.self.inside.taken c.self.inside.watchers c.tell_each.new.watchers c.self.inside.last c.args.self.now c.self.view_is (c.tell_each.ensures ∙ ap (λ ts. each_taken (λ (_ : List ℕ). with_told) ts c.self.inside.watchers) c.as_slice.ensures)
