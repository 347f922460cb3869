use Rattle.std.proofs.Common.{◌≡◌, Bool, drop}
use Rattle.bidel_lex.specs.Next.{lexed_at}
use Rattle.bidel_lex.specs.declared.next.Part.TheVariants.{Blank}
use Rattle.bidel_lex.proofs.skips.blank_end.Given as goal

abbrev pub invariant-loop-at : goal.invariant-loop-at
invariant-loop-at l = (ended : Bool) → lexed_at ended Blank l.at (drop l.at l.bytes) ≡ lexed_at ended Blank l.from (drop l.from l.bytes)
