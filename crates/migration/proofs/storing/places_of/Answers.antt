use Rattle.migration.proofs.PlaceLemmas.{no_places, places_next}
use Rattle.migration.proofs.storing.places_of.Goals as goal

pub loop-number-init : goal.loop-number-init
loop-number-init c = no_places c.args.kept.now c.args.read.now c.new-made.result c.new-made.ensures

pub loop-number-preserved : goal.loop-number-preserved
loop-number-preserved c =
    let l = c.loop-number in
    places_next c.args.kept.now c.args.read.now c.args.numbers.now l.number-index l.made _ c.loop-number-test.true l.invariant c.in_ok-push_place.ensures
