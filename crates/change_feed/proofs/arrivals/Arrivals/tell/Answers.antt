use Rattle.std.proofs.Common.{[], None}
use Rattle.slab.specs.Slab.{get}
use Rattle.std.proofs.lemmas.Option.{slice_get-get_or}
use Rattle.change_feed.specs.Watchers.{with_told}
use Rattle.change_feed.proofs.KeyLemmas.{key_within, key_found, key_put_keys, key_put_values}
use Rattle.change_feed.proofs.arrivals.Arrivals.tell.Goals as goal

pub key_at-requires : goal.key_at-requires
key_at-requires g c = key_within (get c.self.inside.watchers) c.self.inside.keys c.args.self.now c.args.at c.self.invariant c.self.view_is c.requires

pub tell_one-requires : goal.tell_one-requires
tell_one-requires g c = key_found (get c.self.inside.watchers) c.self.inside.keys c.args.at c.key_at.result c.self.invariant c.key_at.ensures

pub invariant_of-self : goal.invariant_of-self
invariant_of-self g c =
    let all = c.args.self.now in
    key_put_keys c.self.inside.watchers c.tell_one.new.watchers c.self.inside.keys all c.args.at c.key_at.result with_told c.self.invariant c.self.view_is c.key_at.ensures c.tell_one.ensures _ (slice_get-get_or all c.args.at (record { prepared = []; told = 0; heard = None; shown = None }) c.requires)

pub returns : goal.returns
returns g c = key_put_values c.self.inside.watchers c.tell_one.new.watchers c.self.inside.keys c.args.self.now c.args.at c.key_at.result with_told c.self.invariant c.self.view_is c.key_at.ensures c.tell_one.ensures
