use Rattle.std.proofs.Common.{ℕ, List, ap, ◌∙◌}
use Rattle.change_feed.specs.Watchers.{with_cleared}
use Rattle.change_feed.specs.inner.Live.{each_taken}
use Rattle.change_feed.proofs.LiveLemmas.{each_view, each_watches}
use Rattle.change_feed.proofs.watches.Watches.clear_all.Goals as goal

pub invariant_of-self : goal.invariant_of-self
invariant_of-self g c = each_watches (λ (_ : List ℕ). with_cleared) c.self.inside.taken c.self.inside.watchers c.clear_each.new.watchers c.self.invariant (c.clear_each.ensures ∙ ap (λ ts. each_taken (λ (_ : List ℕ). with_cleared) ts c.self.inside.watchers) c.as_slice.ensures)

pub returns : goal.returns
returns g c = each_view (λ (_ : List ℕ). with_cleared) c.self.inside.taken c.self.inside.watchers c.clear_each.new.watchers c.self.inside.last c.args.self.now c.self.view_is (c.clear_each.ensures ∙ ap (λ ts. each_taken (λ (_ : List ℕ). with_cleared) ts c.self.inside.watchers) c.as_slice.ensures)
