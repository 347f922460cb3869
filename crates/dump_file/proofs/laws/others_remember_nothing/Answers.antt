use Rattle.dump_file.proofs.DumpLemmas.{others_forget}
use Rattle.dump_file.proofs.laws.others_remember_nothing.Goals as goal

pub returns : goal.returns
returns c p is built = others_forget p is built
