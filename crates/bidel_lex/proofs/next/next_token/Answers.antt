use Rattle.std.proofs.Common.{◌≡◌, ◌<◌, length, get_or, sym, ◌∙◌, arith}
use Rattle.bidel_lex.specs.Next.{next_of, turn_at}
use Rattle.bidel_lex.specs.declared.next.Part.TheVariants.{Blank}
use Rattle.bidel_lex.specs.declared.next.Turn.TheVariants.{Go, Stop}
use Rattle.bidel_lex.proofs.Turns.{lexing_goes, lexing_stops}
use Rattle.bidel_lex.proofs.WithinLaws.{within_along}
use Rattle.bidel_lex.proofs.next.next_token.Goals as goal

pub returns-then-at-bytes-clause-within : goal.returns-then-at-bytes-clause-within
unfolding next_of
returns-then-at-bytes-clause-within c =
    within_along c.args.bytes.now c.args.from c.args.ended c.read_on.result (sym (c.read_on.ensures ∙ c.blank_end-at.ensures.same c.args.ended))

value_goes : (c : goal.After-read_run) → c.read_run.result ≡ next_of c.args.bytes.now c.args.from c.args.ended
unfolding turn_at next_of
value_goes c =
    let at = c.blank_end-at.result in
    let there : at < length c.args.bytes.now = omega (arith, c.blank_end-at.ensures.within, c.if-at-bytes.false) in
    let turn : turn_at Blank at (get_or c.args.bytes.now at 0) ≡ Go c.in-Go.part = sym c.turn_of_first.ensures ∙ c.in-Go.is in
    c.read_run.ensures ∙ lexing_goes c.args.ended Blank c.in-Go.part at c.args.bytes.now there turn ∙ c.blank_end-at.ensures.same c.args.ended

pub returns-in-Go-clause-value : goal.returns-in-Go-clause-value
returns-in-Go-clause-value c = value_goes c

pub returns-in-Go-clause-within : goal.returns-in-Go-clause-within
returns-in-Go-clause-within c = within_along c.args.bytes.now c.args.from c.args.ended c.read_run.result (sym (value_goes c))

value_stops : (c : goal.In-Stop) → c.in-Stop.answer ≡ next_of c.args.bytes.now c.args.from c.args.ended
unfolding turn_at next_of
value_stops c =
    let at = c.blank_end-at.result in
    let there : at < length c.args.bytes.now = omega (arith, c.blank_end-at.ensures.within, c.if-at-bytes.false) in
    let turn : turn_at Blank at (get_or c.args.bytes.now at 0) ≡ Stop c.in-Stop.answer = sym c.turn_of_first.ensures ∙ c.in-Stop.is in
    lexing_stops c.args.ended Blank at c.args.bytes.now c.in-Stop.answer there turn ∙ c.blank_end-at.ensures.same c.args.ended

pub returns-in-Stop-clause-value : goal.returns-in-Stop-clause-value
returns-in-Stop-clause-value c = value_stops c

pub returns-in-Stop-clause-within : goal.returns-in-Stop-clause-within
returns-in-Stop-clause-within c = within_along c.args.bytes.now c.args.from c.args.ended c.in-Stop.answer (sym (value_stops c))
