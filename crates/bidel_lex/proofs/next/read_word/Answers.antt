use Rattle.std.proofs.Common.{◌≡◌, false, get_or, sym, ◌∙◌}
use Rattle.bidel_lex.specs.Classes.{is_word_byte}
use Rattle.bidel_lex.proofs.SkipLemmas.{word_stops}
use Rattle.bidel_lex.proofs.next.read_word.Goals as goal

pub returns-then-not-continues_word : goal.returns-then-not-continues_word
returns-then-not-continues_word c =
    let end = c.word_end-end.result in
    let other : is_word_byte (get_or c.args.bytes.now end 0) ≡ false = sym c.continues_word.ensures ∙ c.if-not-continues_word.true in
    word_stops c.args.ended c.args.start _ end c.args.bytes.now c.if-end-bytes.true other
    ∙ c.word_end-end.ensures.same c.args.ended c.args.start
