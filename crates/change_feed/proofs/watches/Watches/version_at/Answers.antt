use Rattle.std.proofs.Common.{length, sym, ap, ◌∙◌, arith, slice_get}
use Rattle.change_feed.proofs.LiveLemmas.{live_len, version_there}
use Rattle.change_feed.proofs.watches.Watches.version_at.Goals as goal

pub taken_at-requires : goal.taken_at-requires
taken_at-requires g c = omega (arith, c.requires, ap (λ s. length s.live) c.self.view_is, live_len c.self.inside.taken c.self.inside.watchers c.self.invariant.0, ap length c.as_slice.ensures)

pub returns : goal.returns
returns g c =
    let h = version_there c.self.inside.taken c.self.inside.watchers c.args.at c.taken_at.result.now c.self.invariant.0 (ap (λ ts. slice_get ts c.args.at) (sym c.as_slice.ensures) ∙ c.taken_at.ensures) in
    (h.0, ap (λ s. slice_get s.live c.args.at) (sym c.self.view_is) ∙ h.1, h.2)
