use Rattle.std.proofs.Common.{length, sym, ap, ◌∙◌}
use Rattle.change_feed.proofs.LiveLemmas.{live_len}
use Rattle.change_feed.proofs.watches.Watches.len.Goals as goal

pub returns : goal.returns
returns g c = c.len.ensures ∙ sym (live_len c.self.inside.taken c.self.inside.watchers c.self.invariant.0) ∙ ap (λ s. length s.live) c.self.view_is
