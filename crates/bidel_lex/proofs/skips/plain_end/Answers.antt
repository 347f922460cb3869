use Rattle.std.specs.Prelude.{◌==◌, nat_le}
use Rattle.std.proofs.Common.{◌≡◌, true, false, get_or, arith, ◌∙◌}
use Rattle.std.proofs.lemmas.Bool.{le-leb}
use Rattle.std.proofs.lemmas.Bool.Decides.{nat_tests}
use Rattle.bidel_lex.proofs.SkipLemmas.{plain_goes}
use Rattle.bidel_lex.proofs.skips.plain_end.Goals as goal

pub loop-at-preserved : goal.loop-at-preserved
loop-at-preserved c = λ ended start.
    let other : (get_or c.args.bytes.now c.loop-at.at 0 == 39) ≡ false = grind (arith, nat_tests) in
    let low : nat_le (get_or c.args.bytes.now c.loop-at.at 0) 127 ≡ true = le-leb _ 127 c.if-bytes-at-gt127.false in
    plain_goes ended start c.loop-at.at c.args.bytes.now c.loop-at-test.true other low ∙ c.loop-at.invariant ended start
