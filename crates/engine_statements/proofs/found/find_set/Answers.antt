use Rattle.engine_statements.proofs.StandLemmas.{known_lives}
use Rattle.engine_statements.proofs.found.find_set.Goals as goal

pub returns-in-Some-clause-lives : goal.returns-in-Some-clause-lives
returns-in-Some-clause-lives c =
    known_lives c.graph.result.now c.args.database.now.graph _ c.known_set.result c.graph.ensures.graph c.graph.ensures.kept.graph.named c.known_set.ensures
