use Rattle.std.proofs.Common.{arith}
use Rattle.script_stream.proofs.HoldLaws.{fed_size}
use Rattle.script_stream.proofs.input.Input.fed.Goals as goal

pub overflow_add-result : goal.overflow_add-result
overflow_add-result c = let s = c.requires in omega (arith, fed_size s.0 s.1 c.args.self.now s.2, s.3)
