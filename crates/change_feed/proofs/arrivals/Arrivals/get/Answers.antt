use Rattle.std.proofs.Common.{sym, ap, ◌∙◌, slice_get}
use Rattle.slab.specs.Slab.{get}
use Rattle.change_feed.proofs.KeyLemmas.{key_within, key_found, value_at}
use Rattle.change_feed.proofs.arrivals.Arrivals.get.Goals as goal

pub key_at-requires : goal.key_at-requires
key_at-requires g c = key_within (get c.self.inside.watchers) c.self.inside.keys c.args.self.now c.args.at c.self.invariant c.self.view_is c.requires

pub index-requires : goal.index-requires
index-requires g c = key_found (get c.self.inside.watchers) c.self.inside.keys c.args.at c.key_at.result c.self.invariant c.key_at.ensures

pub returns : goal.returns
returns g c = sym (ap (λ xs. slice_get xs c.args.at) c.self.view_is) ∙ value_at (get c.self.inside.watchers) c.self.inside.keys c.args.at c.key_at.result c.self.invariant c.key_at.ensures ∙ c.index.ensures
