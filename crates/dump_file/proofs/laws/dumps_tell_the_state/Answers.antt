use Rattle.dump_file.proofs.StateLemmas.{tells_the_state}
use Rattle.dump_file.proofs.laws.dumps_tell_the_state.Goals as goal

pub returns : goal.returns
returns c p is = tells_the_state p is
