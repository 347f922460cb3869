use Rattle.std.specs.Prelude.{◌==◌}
use Rattle.std.proofs.Common.{◌≡◌, ◌+◌, true, false, get_or, arith, ◌∙◌}
use Rattle.std.proofs.lemmas.Bool.Decides.{nat_tests}
use Rattle.bidel_lex.proofs.SkipLemmas.{quote_closes}
use Rattle.bidel_lex.proofs.next.read_text.Goals as goal

pub returns-then-bytes-end-ne39 : goal.returns-then-bytes-end-ne39
returns-then-bytes-end-ne39 c =
    let at = c.plain_end-quote.result in
    let is : (get_or c.args.bytes.now at 0 == 39) ≡ true = grind (arith, nat_tests) in
    let other : (get_or c.args.bytes.now (at + 1) 0 == 39) ≡ false = grind (arith, nat_tests) in
    quote_closes c.args.ended c.args.start at c.args.bytes.now c.if-end-bytes.true is other
    ∙ c.plain_end-quote.ensures.same c.args.ended c.args.start
