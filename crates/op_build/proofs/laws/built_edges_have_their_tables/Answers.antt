use Rattle.op_build.proofs.MadeTables.{built_tables}
use Rattle.op_build.proofs.laws.built_edges_have_their_tables.Goals as goal

pub returns : goal.returns
returns c = built_tables
