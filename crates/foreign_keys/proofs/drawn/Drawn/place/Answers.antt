use Rattle.std.proofs.Common.{ap, sym, ◌∙◌}
use Rattle.key_index.specs.Found.{first_with}
use Rattle.foreign_keys.proofs.DrawLemmas.{place_there, no_place, place_is}
use Rattle.foreign_keys.specs.inner.DrawnLemmas.{place_end}
use Rattle.foreign_keys.proofs.drawn.Drawn.place.Goals as goal

pub returns-in-Some-clause-value : goal.returns-in-Some-clause-value
returns-in-Some-clause-value c =
    let found = sym (place_is c.self.inside.values c.self.inside.places.rows c.args.value.now c.self.invariant) ∙ sym (c.least_with.ensures.first ∙ ap (first_with c.self.inside.places.rows) c.as_slice.ensures) ∙ c.in-Some.is in
    rw (← c.self.view_is) (place_there c.self.inside.values c.args.value.now _ found).1.0

pub returns-in-Some-clause-within : goal.returns-in-Some-clause-within
returns-in-Some-clause-within c =
    let found = sym (place_is c.self.inside.values c.self.inside.places.rows c.args.value.now c.self.invariant) ∙ sym (c.least_with.ensures.first ∙ ap (first_with c.self.inside.places.rows) c.as_slice.ensures) ∙ c.in-Some.is in
    rw (← c.self.view_is) (place_there c.self.inside.values c.args.value.now _ found).1.1

pub returns-in-None-clause-value : goal.returns-in-None-clause-value
returns-in-None-clause-value c =
    let none = sym (place_is c.self.inside.values c.self.inside.places.rows c.args.value.now c.self.invariant) ∙ sym (c.least_with.ensures.first ∙ ap (first_with c.self.inside.places.rows) c.as_slice.ensures) ∙ c.in-None.is in
    let new = no_place c.self.inside.values c.args.value.now none in
    rw (← c.self.view_is) (c.len.ensures ∙ sym (place_end c.self.inside.values c.args.value.now new))
