use Rattle.dump_file.proofs.DumpLemmas.{dump_stands}
use Rattle.dump_file.proofs.laws.databases_stand_for_their_dumps.Goals as goal

pub returns : goal.returns
returns c p is = dump_stands c.dumps_are_read_back.ensures p is
