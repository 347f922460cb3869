use Rattle.std.proofs.Common.{◌∙◌}
use Rattle.slab.specs.Slab.{get}
use Rattle.std.proofs.lemmas.Option.{slice_get_within}
use Rattle.change_feed.specs.Watchers.{with_prepared}
use Rattle.change_feed.proofs.KeyLemmas.{key_within, key_value, set_same, key_put_keys, key_put_values, on_err}
use Rattle.change_feed.proofs.arrivals.Arrivals.prepare.Goals as goal

pub key_at-requires : goal.key_at-requires
key_at-requires g c = key_within (get c.self.inside.watchers) c.self.inside.keys c.args.self.now c.args.at c.self.invariant c.self.view_is (slice_get_within c.args.self.now c.args.at c.requires.0 c.requires.1)

pub prepare_one-requires : goal.prepare_one-requires
prepare_one-requires g c = (c.requires.0, key_value (get c.self.inside.watchers) c.self.inside.keys c.args.self.now c.args.at c.key_at.result c.requires.0 c.self.invariant c.self.view_is c.key_at.ensures c.requires.1, c.requires.2)

pub invariant_of-self : goal.invariant_of-self
invariant_of-self g c = key_put_keys c.self.inside.watchers c.prepare_one.new.watchers c.self.inside.keys c.args.self.now c.args.at c.key_at.result (λ watcher. watcher) c.self.invariant c.self.view_is c.key_at.ensures c.in_err-prepare_one.ensures.err c.requires.0 c.requires.1

pub invariant_of-self-2 : goal.invariant_of-self-2
invariant_of-self-2 g c = key_put_keys c.self.inside.watchers c.prepare_one.new.watchers c.self.inside.keys c.args.self.now c.args.at c.key_at.result (with_prepared c.args.note.now) c.self.invariant c.self.view_is c.key_at.ensures c.in_ok-prepare_one.ensures.ok c.requires.0 c.requires.1

pub returns-clause-ok : goal.returns-clause-ok
returns-clause-ok g c = key_put_values c.self.inside.watchers c.prepare_one.new.watchers c.self.inside.keys c.args.self.now c.args.at c.key_at.result (with_prepared c.args.note.now) c.self.invariant c.self.view_is c.key_at.ensures c.in_ok-prepare_one.ensures.ok

pub returns-in_err-prepare_one-clause-err : goal.returns-in_err-prepare_one-clause-err
returns-in_err-prepare_one-clause-err g c =
    on_err _ _ (key_put_values c.self.inside.watchers c.prepare_one.new.watchers c.self.inside.keys c.args.self.now c.args.at c.key_at.result (λ watcher. watcher) c.self.invariant c.self.view_is c.key_at.ensures c.in_err-prepare_one.ensures.err c.requires.0 c.requires.1
    ∙ set_same c.args.self.now c.args.at c.requires.0 c.requires.1)
