use Rattle.dump_values.proofs.DumpBack.{dump_back}
use Rattle.dump_values.proofs.laws.dumps_are_read_back.Goals as goal

pub returns : goal.returns
returns c = dump_back
