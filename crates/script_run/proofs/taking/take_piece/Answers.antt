use Rattle.script_run.proofs.StreamLemmas.{its_input}
use Rattle.script_run.proofs.taking.take_piece.Goals as goal

pub fed-requires : goal.fed-requires
fed-requires g c = let s = c.requires.stream in its_input s.0 s.1 s.2 c.args.stream.now s.3
