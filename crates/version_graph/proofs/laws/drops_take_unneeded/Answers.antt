use Rattle.version_graph.specs.Laws.{other_sets}
use Rattle.version_graph.proofs.UnneededLaws.{below_stays, goes_taken, stays_below, taken_goes}
use Rattle.version_graph.proofs.laws.drops_take_unneeded.Goals as goal

pub returns-clause-doomed : goal.returns-clause-doomed
returns-clause-doomed g c d graph name n i =
    let sets = other_sets d name in (
      λ gone below. (taken_goes d.edges sets n graph.edges gone).1 (below_stays d.edges sets n below),
      λ none. goes_taken d.edges sets n i (λ stays. none (stays_below d.edges sets n graph.edges stays)),
    )

pub returns-clause-left : goal.returns-clause-left
returns-clause-left g c d graph name n =
    let sets = other_sets d name in (
      λ stays. stays_below d.edges sets n graph.edges stays,
      λ below. below_stays d.edges sets n below,
    )
