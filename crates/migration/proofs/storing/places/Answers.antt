use Rattle.std.proofs.Common.{ℕ, List, subst}
use Rattle.layout_rules.proofs.PassLaws.{if_ok_more}
use Rattle.migration.specs.Places.{ArePlaces, AreStoredPlaces}
use Rattle.migration.proofs.PlaceLemmas.{stored_places}
use Rattle.migration.proofs.storing.places.Goals as goal

pub returns : goal.returns
returns g c =
    let es = c.args.graph.now.edges in
    let kept = c.args.kept.now in
    let read = c.args.read.now in
    if_ok_more (ArePlaces kept read c.as_slice.result.now) (AreStoredPlaces es c.args.layout.now.operators kept read)
    (λ made places. stored_places es c.args.layout.now.operators kept read c.in_ok-numbers.numbers made c.in_ok-numbers.ensures.stored c.in_ok-numbers.ensures.ascending
    (subst (λ (l : List ℕ). ArePlaces kept read l made) c.as_slice.ensures places)) _ c.places_of.ensures
