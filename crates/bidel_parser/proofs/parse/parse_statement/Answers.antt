use Rattle.std.proofs.Common.{refl, ◌-◌, length, arith, sym, inl, inr, ap, ℕ, ◌∙◌}
use Rattle.bidel_parser.specs.Parsing.{start_of}
use Rattle.bidel_expr.proofs.TokensWithinLaws.{tokens_within}
use Rattle.bidel_parser.proofs.ParsingLaws.{whole, whole_within, left_within, none_whole, begins, fault, rest_is, some_length}
use Rattle.bidel_parser.proofs.parse.parse_statement.Goals as goal
use Rattle.bidel_parser.proofs.parse.parse_statement.Goals.{else-ended-via-then-ended+else-is_empty, else-ended-via-else-ended}

pub invariant_of-take_statement : goal.invariant_of-take_statement
invariant_of-take_statement c = record { within = tokens_within c.args.bytes.now c.args.tokens.now c.requires }

pub overflow_sub-result : goal.overflow_sub-result
overflow_sub-result c = whole_within c.args.bytes.now c.args.tokens.now c.args.ended _ c.in-Ok.rest c.in-Ok.ensures

pub overflow_sub-tokens : goal.overflow_sub-tokens
overflow_sub-tokens c = left_within c.args.bytes.now c.args.tokens.now c.args.ended c.in-Err-Left.left (rw c.in-Err-Left.field-0-is at c.in-Err-Left.ensures)

pub returns-in-Ok : goal.returns-in-Ok
returns-in-Ok c = whole c.args.bytes.now c.args.tokens.now c.args.ended _ c.in-Ok.rest c.in-Ok.ensures

pub returns-then-not-ended : goal.returns-then-not-ended
returns-then-not-ended c =
    let f = rw c.in-Err-Left.field-0-is at c.in-Err-Left.ensures in
    (c.if-not-ended.true, none_whole c.args.bytes.now c.args.tokens.now c.args.ended c.in-Err-Left.left f, begins c.args.bytes.now c.args.tokens.now c.args.ended c.in-Err-Left.left f c.if-left-eq0.true)

pub returns-else-left-eq0 : goal.returns-else-left-eq0
returns-else-left-eq0 c =
    let f = rw c.in-Err-Left.field-0-is at c.in-Err-Left.ensures in
    let at : ℕ = length c.args.tokens.now - c.in-Err-Left.left in (
      none_whole c.args.bytes.now c.args.tokens.now c.args.ended c.in-Err-Left.left f,
      fault c.args.bytes.now c.args.tokens.now c.args.ended c.in-Err-Left.left f c.start.result
          (elim c.else-left-eq0.either [
            | inl h ↦ inr (
              h.1,
              elim c.else-ended.branch [
                | else-ended-via-then-ended+else-is_empty w ↦ some_length c.args.tokens.now (sym w.is_empty.ensures ∙ w.if-is_empty.false)
                | else-ended-via-else-ended w ↦ (let clash = sym w.if-ended.false ∙ h.1 in cc)
              ],
            )
            | inr h ↦ inl (omega (arith, h))
          ])
          (c.start.ensures ∙ ap (start_of (length c.args.bytes.now)) (rest_is c.args.tokens.now at (length c.args.tokens.now - at) refl)),
    )
