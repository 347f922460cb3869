use Rattle.std.specs.Prelude.{nat_lt}
use Rattle.std.proofs.Common.{◌≡◌, ◌+◌, ◌-◌, ◌<◌, ℕ, true, length, get_or, drop, arith, ap, sym, ◌∙◌}
use Rattle.std.proofs.lemmas.Bool.{lt-ltb}
use Rattle.std.proofs.lemmas.Grind.{common_steps}
use Rattle.bidel_lex.specs.Classes.{is_word_byte}
use Rattle.bidel_lex.specs.Next.{lexed_at}
use Rattle.bidel_lex.specs.declared.next.Part.TheVariants.{Open}
use Rattle.bidel_lex.specs.declared.unfinished.Unfinished.TheVariants.{Word}
use Rattle.bidel_lex.proofs.SkipLemmas.{word_goes}
use Rattle.bidel_lex.proofs.skips.word_end.Goals as goal

pub loop-at-preserved : goal.loop-at-preserved
loop-at-preserved c = λ ended start.
    let at = c.loop-at.at in
    let size : ℕ = c.args.count + (at - c.args.from) in
    let is : is_word_byte (get_or c.args.bytes.now at 0) ≡ true = sym c.continues_word.ensures ∙ c.if-not-continues_word.false in
    let within : at < length c.args.bytes.now = grind (arith, common_steps) in
    let under : size < 64 = grind (arith, common_steps) in
    let short : nat_lt size 64 ≡ true = lt-ltb size 64 under in
    let more : c.args.count + (at + 1 - c.args.from) ≡ size + 1 = omega (arith, c.loop-at.auto.at) in
    ap (λ (n : ℕ). lexed_at ended (Open start (Word n)) (at + 1) (drop (at + 1) c.args.bytes.now)) more
    ∙ word_goes ended start size at c.args.bytes.now within short is ∙ c.loop-at.invariant ended start
