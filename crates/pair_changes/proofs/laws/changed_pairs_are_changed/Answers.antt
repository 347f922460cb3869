use Rattle.pair_changes.proofs.ChangedLaws.{difference_makes, is_changed}
use Rattle.pair_changes.proofs.laws.changed_pairs_are_changed.Goals as goal

pub returns-clause-changed : goal.returns-clause-changed
returns-clause-changed c = is_changed

pub returns-clause-difference : goal.returns-clause-difference
returns-clause-difference c = difference_makes c.pairs_are_the_memory.ensures
