use Rattle.std.proofs.Common.{Bool, subst}
use Rattle.bidel_expr.specs.Lexemes.{lexemes}
use Rattle.statements.specs.Views.{statement_view}
use Rattle.bidel_parser.specs.Parsing.{IsFront, NoFront}
use Rattle.bidel_script.proofs.LengthLemmas.{finds_unless}
use Rattle.bidel_script.proofs.front.find_front.Goals as goal

pub stop_open-requires-clause-none : goal.stop_open-requires-clause-none
stop_open-requires-clause-none c =
    let p = rw c.in-Ok-More.field-0-is at c.in-Ok-More.ensures in
    subst (λ (b : Bool). NoFront b (lexemes c.args.bytes.now c.args.tokens.now)) p.0 p.1

pub stop_at-requires-clause-none : goal.stop_at-requires-clause-none
stop_at-requires-clause-none c =
    let p = rw c.in-Err-Refused.field-0-is at c.in-Err-Refused.ensures in
    subst (λ (b : Bool). NoFront b (lexemes c.args.bytes.now c.args.tokens.now)) c.is_over.ensures p.0

pub returns-in-Ok-Whole : goal.returns-in-Ok-Whole
returns-in-Ok-Whole c =
    let front : IsFront c.is_over.result (lexemes c.args.bytes.now c.args.tokens.now) (statement_view c.in-Ok-Whole.statement) c.in-Ok-Whole.used = rw c.in-Ok-Whole.field-0-is at c.in-Ok-Whole.ensures in
    finds_unless c.args.bytes.now c.args.tail c.args.tokens.now c.in-Ok-Whole.statement c.in-Ok-Whole.used c.is_long_front-long.result c.unless_long.result
    (subst (λ (b : Bool). IsFront b (lexemes c.args.bytes.now c.args.tokens.now) (statement_view c.in-Ok-Whole.statement) c.in-Ok-Whole.used) c.is_over.ensures front)
    c.is_long_front-long.ensures c.unless_long.ensures.long c.unless_long.ensures.short
