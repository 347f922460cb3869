use Rattle.dump_formats.proofs.StandLemmas.{one_run}
use Rattle.dump_formats.proofs.laws.dumps_are_of_one_run.Goals as goal

pub returns : goal.returns
returns c = one_run c.dumps_are_of_one_database.ensures.whole c.dumps_are_of_one_database.ensures.graph
