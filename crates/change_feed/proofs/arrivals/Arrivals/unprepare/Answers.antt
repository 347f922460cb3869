use Rattle.slab.specs.Slab.{get}
use Rattle.std.proofs.lemmas.Option.{slice_get_within}
use Rattle.change_feed.specs.Watchers.{without_last}
use Rattle.change_feed.proofs.KeyLemmas.{key_within, key_value, key_put_keys, key_put_values}
use Rattle.change_feed.proofs.arrivals.Arrivals.unprepare.Goals as goal

pub key_at-requires : goal.key_at-requires
key_at-requires g c = key_within (get c.self.inside.watchers) c.self.inside.keys c.args.self.now c.args.at c.self.invariant c.self.view_is (slice_get_within c.args.self.now c.args.at c.requires.0 c.requires.1)

pub unprepare_one-requires : goal.unprepare_one-requires
unprepare_one-requires g c = (c.requires.0, key_value (get c.self.inside.watchers) c.self.inside.keys c.args.self.now c.args.at c.key_at.result c.requires.0 c.self.invariant c.self.view_is c.key_at.ensures c.requires.1, c.requires.2)

pub invariant_of-self : goal.invariant_of-self
invariant_of-self g c = key_put_keys c.self.inside.watchers c.unprepare_one.new.watchers c.self.inside.keys c.args.self.now c.args.at c.key_at.result without_last c.self.invariant c.self.view_is c.key_at.ensures c.unprepare_one.ensures c.requires.0 c.requires.1

pub returns : goal.returns
returns g c = key_put_values c.self.inside.watchers c.unprepare_one.new.watchers c.self.inside.keys c.args.self.now c.args.at c.key_at.result without_last c.self.invariant c.self.view_is c.key_at.ensures c.unprepare_one.ensures
