use Rattle.std.proofs.Common.{sym, ap, subst, ◌∙◌}
use Rattle.slab.specs.Slab.{get}
use Rattle.std.specs.List.{remove}
use Rattle.change_feed.specs.inner.Keys.{values_at, AreKeys}
use Rattle.change_feed.proofs.KeyLemmas.{key_within, key_found, remove_keys, remove_values}
use Rattle.change_feed.proofs.arrivals.Arrivals.remove.Goals as goal

pub remove-key-requires : goal.remove-key-requires
remove-key-requires g c = key_within (get c.self.inside.watchers) c.self.inside.keys c.args.self.now c.args.at c.self.invariant c.self.view_is c.requires

pub remove-requires : goal.remove-requires
remove-requires g c = key_found (get c.self.inside.watchers) c.self.inside.keys c.args.at c.remove-key.result c.self.invariant c.remove-key.ensures.item

pub invariant_of-self : goal.invariant_of-self
invariant_of-self g c =
    subst (λ ks. AreKeys (get c.remove.new.self) ks) (sym c.remove-key.ensures.rest)
    (remove_keys (get c.self.inside.watchers) (get c.remove.new.self) c.self.inside.keys c.args.at c.remove-key.result c.self.invariant c.remove-key.ensures.item c.remove.ensures.updates.others)

pub returns : goal.returns
returns g c =
    ap (λ ks. values_at (get c.remove.new.self) ks) c.remove-key.ensures.rest
    ∙ remove_values (get c.self.inside.watchers) (get c.remove.new.self) c.self.inside.keys c.args.at c.remove-key.result c.self.invariant c.remove-key.ensures.item c.remove.ensures.updates.others
    ∙ ap (λ xs. remove xs c.args.at) c.self.view_is
