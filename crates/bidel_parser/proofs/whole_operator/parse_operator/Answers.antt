use Rattle.std.proofs.Common.{sym, ◌∙◌, length}
use Rattle.statements.specs.Views.{op_view}
use Rattle.bidel_expr.proofs.TokensWithinLaws.{tokens_within}
use Rattle.bidel_parser.proofs.ParsingLaws.{some_length}
use Rattle.bidel_parser.proofs.WholeOperatorLaws.{stopped, left_over, none_left, no_tokens, stop_within, fault}
use Rattle.bidel_parser.proofs.whole_operator.parse_operator.Goals as goal

pub invariant_of-take_operator : goal.invariant_of-take_operator
invariant_of-take_operator c = record { within = tokens_within c.args.bytes.now c.args.tokens.now c.requires }

pub fault-requires : goal.fault-requires
fault-requires c =
    let s = left_over c.args.bytes.now c.args.tokens.now c.in-Ok.rest (op_view c.in-Ok.operator) c.in-Ok.ensures (some_length c.in-Ok.rest.tokens.now (sym c.is_empty.ensures ∙ c.if-is_empty.false)) in
    stop_within c.args.bytes.now c.args.tokens.now (length c.in-Ok.rest.tokens.now) s

pub fault-requires-in-Err-Left : goal.fault-requires-in-Err-Left
fault-requires-in-Err-Left c =
    stop_within c.args.bytes.now c.args.tokens.now c.in-Err-Left.left (stopped c.args.bytes.now c.args.tokens.now c.in-Err-Left.left (rw c.in-Err-Left.field-0-is at c.in-Err-Left.ensures))

pub returns-then-is_empty : goal.returns-then-is_empty
returns-then-is_empty c =
    none_left c.args.bytes.now c.args.tokens.now c.in-Ok.rest (op_view c.in-Ok.operator) c.in-Ok.ensures (no_tokens c.in-Ok.rest.tokens.now (sym c.is_empty.ensures ∙ c.if-is_empty.true))

pub returns-else-is_empty : goal.returns-else-is_empty
returns-else-is_empty c =
    let s = left_over c.args.bytes.now c.args.tokens.now c.in-Ok.rest (op_view c.in-Ok.operator) c.in-Ok.ensures (some_length c.in-Ok.rest.tokens.now (sym c.is_empty.ensures ∙ c.if-is_empty.false)) in
    (s.no, fault c.args.bytes.now c.args.tokens.now (length c.in-Ok.rest.tokens.now) s c.fault.result.at c.fault.ensures)

pub returns-in-Err-Left : goal.returns-in-Err-Left
returns-in-Err-Left c =
    let s = stopped c.args.bytes.now c.args.tokens.now c.in-Err-Left.left (rw c.in-Err-Left.field-0-is at c.in-Err-Left.ensures) in
    (s.no, fault c.args.bytes.now c.args.tokens.now c.in-Err-Left.left s c.fault-in-Err-Left.result.at c.fault-in-Err-Left.ensures)
