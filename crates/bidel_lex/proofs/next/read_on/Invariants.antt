use Rattle.std.proofs.Common.{◌≡◌, drop}
use Rattle.bidel_lex.specs.Next.{lexed_at}
use Rattle.bidel_lex.proofs.next.read_on.Given as goal

abbrev pub invariant-loop-at : goal.invariant-loop-at
invariant-loop-at l = lexed_at l.ended l.part l.at (drop l.at l.bytes) ≡ lexed_at l.ended l.fn.first l.from (drop l.from l.bytes)
