use Rattle.std.proofs.Common.{◌≡◌, true, get_or, sym, ◌∙◌}
use Rattle.bidel_lex.specs.Classes.{is_space}
use Rattle.bidel_lex.proofs.SkipLemmas.{space_goes}
use Rattle.bidel_lex.proofs.skips.blank_end.Goals as goal

pub loop-at-preserved : goal.loop-at-preserved
loop-at-preserved c = λ ended.
    let is : is_space (get_or c.args.bytes.now c.loop-at.at 0) ≡ true = sym c.is_space_byte.ensures ∙ c.if-not-is_space_byte.false in
    space_goes ended c.loop-at.at c.args.bytes.now c.loop-at-test.true is ∙ c.loop-at.invariant ended
