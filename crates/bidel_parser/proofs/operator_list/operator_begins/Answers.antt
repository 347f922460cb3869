use Rattle.std.proofs.Common.{sym, ◌∙◌, arith}
use Rattle.bidel_expr.specs.ReadAnswers.{ahead}
use Rattle.bidel_expr.proofs.CursorsLaws.{ahead_length}
use Rattle.bidel_parser.proofs.ReadSteps.{alone_begins, pair_begins}
use Rattle.bidel_parser.proofs.operator_list.operator_begins.Goals as goal

pub returns-then-is_shared_word_next : goal.returns-then-is_shared_word_next
returns-then-is_shared_word_next c = sym (alone_begins c.args.ended (ahead c.args.cursor) (omega (arith, ahead_length c.args.cursor, c.in-len1.len_at_least, c.in-len1.len_below))
    (sym c.is_lone_word_next.ensures ∙ c.if-is_lone_word_next.false) (sym c.is_shared_word_next.ensures ∙ c.if-is_shared_word_next.true))

pub returns-else-is_lone_word_next-2 : goal.returns-else-is_lone_word_next-2
returns-else-is_lone_word_next-2 c = c.is_shown.ensures ∙ sym (pair_begins c.args.ended (ahead c.args.cursor) (omega (arith, ahead_length c.args.cursor, c.in_default.len_at_least))
    (sym c.is_lone_word_next-in_default.ensures ∙ c.if-is_lone_word_next-2.false))
