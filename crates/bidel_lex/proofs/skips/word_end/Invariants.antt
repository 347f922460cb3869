use Rattle.std.proofs.Common.{◌≡◌, ◌+◌, ◌-◌, ℕ, Bool, drop}
use Rattle.bidel_lex.specs.Next.{lexed_at}
use Rattle.bidel_lex.specs.declared.next.Part.TheVariants.{Open}
use Rattle.bidel_lex.specs.declared.unfinished.Unfinished.TheVariants.{Word}
use Rattle.bidel_lex.proofs.skips.word_end.Given as goal

abbrev pub invariant-loop-at : goal.invariant-loop-at
invariant-loop-at l = (ended : Bool) (start : ℕ) → lexed_at ended (Open start (Word (l.count + (l.at - l.from)))) l.at (drop l.at l.bytes)
    ≡ lexed_at ended (Open start (Word l.count)) l.from (drop l.from l.bytes)
