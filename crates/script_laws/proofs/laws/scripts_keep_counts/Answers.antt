use Rattle.script_laws.proofs.CountLemmas.{scripts_keep_counts}
use Rattle.script_laws.proofs.laws.scripts_keep_counts.Goals as goal

pub returns : goal.returns
returns c = scripts_keep_counts c.counts_stay_beside_the_graph.ensures
