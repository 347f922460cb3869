use Rattle.std.proofs.Common.{◌≡◌, ℕ, Bool, drop}
use Rattle.bidel_lex.specs.Next.{lexed_at}
use Rattle.bidel_lex.specs.declared.next.Part.TheVariants.{Open}
use Rattle.bidel_lex.specs.declared.texts.Wanted.TheVariants.{Character}
use Rattle.bidel_lex.specs.declared.unfinished.Unfinished.TheVariants.{Text}
use Rattle.bidel_lex.proofs.skips.plain_end.Given as goal

abbrev pub invariant-loop-at : goal.invariant-loop-at
invariant-loop-at l = (ended : Bool) (start : ℕ) → lexed_at ended (Open start (Text Character)) l.at (drop l.at l.bytes)
    ≡ lexed_at ended (Open start (Text Character)) l.from (drop l.from l.bytes)
