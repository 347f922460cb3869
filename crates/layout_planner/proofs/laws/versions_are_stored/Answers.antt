use Rattle.layout_planner.proofs.StoreLemmas.{creates_valid, named_set, never_refused}
use Rattle.layout_planner.proofs.laws.versions_are_stored.Goals as goal

pub returns-clause-stored : goal.returns-clause-stored
returns-clause-stored g c d graph layout name some = let w = named_set d.versions name some in never_refused d graph layout name w.0 w.1

pub returns-clause-creates : goal.returns-clause-creates
returns-clause-creates g c es edges = creates_valid es edges
