use Rattle.std.proofs.Common.{◌≡◌, ◌++◌, ◌∷◌, [], ℕ, false, sym, ap, ◌∙◌}
use Rattle.foreign_keys.specs.DrawnIds.{has}
use Rattle.foreign_keys.proofs.DrawLemmas.{add_new, add_there, placed_next, placed_below}
use Rattle.foreign_keys.proofs.drawn.Drawn.with.Goals as goal

pub returns-then-has : goal.returns-then-has
returns-then-has c = add_there c.args.value c.args.self (sym c.has.ensures ∙ c.if-has.true)

pub push-requires : goal.push-requires
push-requires c = placed_below c.self.inside.values c.self.inside.places.rows c.len.result c.self.invariant c.len.ensures

pub invariant_of-result : goal.invariant_of-result
invariant_of-result c =
    let more = c.in_ok-push.ensures.ok ∙ ap (λ (place : ℕ). c.self.inside.places.rows ++ (place, c.args.value) ∷ []) c.len.ensures in
    placed_next c.args.value c.self.inside.values c.push-2.new.self c.self.inside.places.rows c.push.new.self.rows c.self.invariant c.in_ok-push-2.ensures.ok more

pub returns : goal.returns
returns c =
    let new : has c.self.inside.values c.args.value ≡ false = rw c.self.view_is (sym c.has.ensures ∙ c.if-has.false) in
    rw (← c.self.view_is) (c.in_ok-push-2.ensures.ok ∙ add_new c.args.value c.self.inside.values new)
