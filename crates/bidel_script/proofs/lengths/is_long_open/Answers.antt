use Rattle.std.proofs.Common.{◌∙◌, ◌≡◌, [], sym, ap, arith, true, length, drop}
use Rattle.bidel_expr.specs.Lexemes.{lexemes}
use Rattle.statements.specs.Views.{statement_view}
use Rattle.bidel_parser.specs.Parsing.{IsFront, start_of}
use Rattle.bidel_script.specs.Lengths.{whole, part}
use Rattle.bidel_script.proofs.TokenLaws.{fault_within}
use Rattle.bidel_script.proofs.LengthLemmas.{front_short, fault_short, none_empty, first_empty, fault_token}
use Rattle.bidel_script.proofs.lengths.is_long_open.Goals as goal

pub is_long_fault-requires-in-Err-Refused-clause-start : goal.is_long_fault-requires-in-Err-Refused-clause-start
is_long_fault-requires-in-Err-Refused-clause-start c =
    fault_within c.args.bytes.now c.args.tokens.now true c.in-Err-Refused.field-0-0.at c.requires.tokens (rw c.in-Err-Refused.field-0-is at c.in-Err-Refused.ensures).1

pub returns-in-Ok-Whole-clause-long : goal.returns-in-Ok-Whole-clause-long
returns-in-Ok-Whole-clause-long c = λ long.
    let front : IsFront true (lexemes c.args.bytes.now c.args.tokens.now) (statement_view c.in-Ok-Whole.statement) c.in-Ok-Whole.used = rw c.in-Ok-Whole.field-0-is at c.in-Ok-Whole.ensures in
    whole (statement_view c.in-Ok-Whole.statement) c.in-Ok-Whole.used front (sym c.is_long_whole.ensures ∙ long)

pub returns-in-Ok-Whole-clause-short : goal.returns-in-Ok-Whole-clause-short
returns-in-Ok-Whole-clause-short c = λ short.
    let front : IsFront true (lexemes c.args.bytes.now c.args.tokens.now) (statement_view c.in-Ok-Whole.statement) c.in-Ok-Whole.used = rw c.in-Ok-Whole.field-0-is at c.in-Ok-Whole.ensures in
    front_short c.args.bytes.now c.args.tail c.args.tokens.now (statement_view c.in-Ok-Whole.statement) c.in-Ok-Whole.used front (sym c.is_long_whole.ensures ∙ short)

pub returns-in-Err-Refused-clause-long : goal.returns-in-Err-Refused-clause-long
returns-in-Err-Refused-clause-long c = λ long.
    let stop = rw c.in-Err-Refused.field-0-is at c.in-Err-Refused.ensures in
    let token = fault_token c.args.bytes.now c.args.tokens.now true c.in-Err-Refused.field-0-0.at stop.1 in
    part stop.1.token token stop.0 stop.1.first (sym (c.is_long_fault-in-Err-Refused.ensures stop.1.token token stop.1.place) ∙ long)

pub returns-in-Err-Refused-clause-short : goal.returns-in-Err-Refused-clause-short
returns-in-Err-Refused-clause-short c = λ short.
    let stop = rw c.in-Err-Refused.field-0-is at c.in-Err-Refused.ensures in
    let token = fault_token c.args.bytes.now c.args.tokens.now true c.in-Err-Refused.field-0-0.at stop.1 in
    fault_short c.args.bytes.now c.args.tail c.args.tokens.now stop.1.token token stop.0 stop.1.first (sym (c.is_long_fault-in-Err-Refused.ensures stop.1.token token stop.1.place) ∙ short)

pub returns-in-Ok-Nothing : goal.returns-in-Ok-Nothing
returns-in-Ok-Nothing c =
    let bytes = c.args.bytes.now in
    let tokens = c.args.tokens.now in
    let none : tokens ≡ [] = (rw c.in-Ok-Nothing.field-0-is at c.in-Ok-Nothing.ensures).1 in
    let place : length bytes ≡ start_of (length bytes) (drop 0 tokens) = ap (start_of (length bytes)) (sym none) in
    let said = ap (lexemes bytes) none in
    record {
      long = λ long. part 0 (omega arith) (none_empty true (lexemes bytes tokens) said) (first_empty (lexemes bytes tokens) said) (sym (c.is_long_fault.ensures 0 (omega arith) place) ∙ long);
      short = λ short. fault_short bytes c.args.tail tokens 0 (omega arith) (none_empty true (lexemes bytes tokens) said) (first_empty (lexemes bytes tokens) said)
          (sym (c.is_long_fault.ensures 0 (omega arith) place) ∙ short);
    }
