use Rattle.std.proofs.Common.{◌≡◌, [], ◌∷◌, ◌++◌, sym, ap, subst, ◌∙◌}
use Rattle.slab.specs.Slab.{get}
use Rattle.change_feed.specs.inner.Keys.{values_at, AreKeys}
use Rattle.change_feed.proofs.KeyLemmas.{same_slots, same_slot_values, push_keys, push_values}
use Rattle.change_feed.proofs.arrivals.Arrivals.push.Goals as goal

pub invariant_of-self : goal.invariant_of-self
invariant_of-self g c = same_slots c.self.inside.watchers c.reserve.new.self c.self.inside.keys (ap (λ s. s.slots) c.reserve.ensures.rest_kept) c.self.invariant

pub invariant_of-self-in_err-push : goal.invariant_of-self-in_err-push
invariant_of-self-in_err-push g c =
    subst (λ ks. AreKeys (get c.reserve.new.self) ks) (sym c.in_err-push.ensures.err) (same_slots c.self.inside.watchers c.reserve.new.self c.self.inside.keys (ap (λ s. s.slots) c.reserve.ensures.rest_kept) c.self.invariant)

pub invariant_of-self-2 : goal.invariant_of-self-2
invariant_of-self-2 g c =
    let is : c.vacant_key.result ≡ c.insert_reserved.result = c.vacant_key.ensures.value ∙ sym c.insert_reserved.ensures.key in
    let keys : c.push.new.self ≡ c.self.inside.keys ++ c.insert_reserved.result ∷ [] = c.in_ok-push.ensures.ok ∙ ap (λ k. c.self.inside.keys ++ k ∷ []) is in
    subst (λ ks. AreKeys (get c.insert_reserved.new.self) ks) (sym keys)
    (push_keys (get c.reserve.new.self) (get c.insert_reserved.new.self) c.self.inside.keys c.insert_reserved.result c.args.watcher
    (same_slots c.self.inside.watchers c.reserve.new.self c.self.inside.keys (ap (λ s. s.slots) c.reserve.ensures.rest_kept) c.self.invariant)
    c.insert_reserved.ensures.was_vacant c.insert_reserved.ensures.updates.changed c.insert_reserved.ensures.updates.others)

pub returns-clause-ok : goal.returns-clause-ok
returns-clause-ok g c =
    let is : c.vacant_key.result ≡ c.insert_reserved.result = c.vacant_key.ensures.value ∙ sym c.insert_reserved.ensures.key in
    let keys : c.push.new.self ≡ c.self.inside.keys ++ c.insert_reserved.result ∷ [] = c.in_ok-push.ensures.ok ∙ ap (λ k. c.self.inside.keys ++ k ∷ []) is in
    ap (λ ks. values_at (get c.insert_reserved.new.self) ks) keys
    ∙ push_values (get c.reserve.new.self) (get c.insert_reserved.new.self) c.self.inside.keys c.insert_reserved.result c.args.watcher
    (same_slots c.self.inside.watchers c.reserve.new.self c.self.inside.keys (ap (λ s. s.slots) c.reserve.ensures.rest_kept) c.self.invariant)
    c.insert_reserved.ensures.was_vacant c.insert_reserved.ensures.updates.changed c.insert_reserved.ensures.updates.others
    ∙ ap (λ xs. xs ++ c.args.watcher ∷ []) (same_slot_values c.self.inside.watchers c.reserve.new.self c.self.inside.keys (ap (λ s. s.slots) c.reserve.ensures.rest_kept) ∙ c.self.view_is)
