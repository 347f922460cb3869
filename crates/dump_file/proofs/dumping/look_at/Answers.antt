use Rattle.dump_file.proofs.FitLemmas.{told_fits}
use Rattle.dump_file.proofs.dumping.look_at.Goals as goal

pub returns : goal.returns
returns c = told_fits c.args.db.now c.graph-graph.ensures.kept c.look_at_numbers.ensures
