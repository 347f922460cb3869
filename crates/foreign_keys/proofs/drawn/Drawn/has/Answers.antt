use Rattle.std.proofs.Common.{ap, sym, ◌∙◌}
use Rattle.key_index.specs.Found.{first_with}
use Rattle.foreign_keys.proofs.DrawLemmas.{place_there, no_place, place_is}
use Rattle.foreign_keys.proofs.drawn.Drawn.has.Goals as goal

pub returns-in-Some : goal.returns-in-Some
returns-in-Some c =
    let found = sym (place_is c.self.inside.values c.self.inside.places.rows c.args.value.now c.self.invariant) ∙ sym (c.least_with.ensures.first ∙ ap (first_with c.self.inside.places.rows) c.as_slice.ensures) ∙ c.in-Some.is in
    rw (← c.self.view_is) (sym (place_there c.self.inside.values c.args.value.now _ found).0)

pub returns-in-None : goal.returns-in-None
returns-in-None c =
    let none = sym (place_is c.self.inside.values c.self.inside.places.rows c.args.value.now c.self.invariant) ∙ sym (c.least_with.ensures.first ∙ ap (first_with c.self.inside.places.rows) c.as_slice.ensures) ∙ c.in-None.is in
    rw (← c.self.view_is) (sym (no_place c.self.inside.values c.args.value.now none))
