use Rattle.std.proofs.Common.{◌∙◌, sym}
use Rattle.script_run.proofs.StreamLemmas.{found_by, its_input, over_within}
use Rattle.script_run.proofs.stream.Stream.find.Goals as goal

pub next-requires : goal.next-requires
next-requires g c = let s = c.requires in its_input s.0 s.1 s.2 c.args.self.now s.3

pub find_last-requires-clause-within : goal.find_last-requires-clause-within
find_last-requires-clause-within g c = over_within c.args.self.now.ended c.args.self.now.passed (sym c.is_over.ensures ∙ c.if-is_over.true)

pub returns-else-is_over-clause-finds : goal.returns-else-is_over-clause-finds
returns-else-is_over-clause-finds g c = found_by c.args.self.now c.next.new.self c.next.result (sym c.is_over.ensures ∙ c.if-is_over.false) c.next.ensures.same c.next.ensures.ok
