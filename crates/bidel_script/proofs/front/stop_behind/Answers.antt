use Rattle.std.proofs.Common.{◌∙◌, ◌≡◌, true, drop, length, sym, ap, inr, arith}
use Rattle.bidel_expr.specs.Lexemes.{lexemes}
use Rattle.bidel_parser.specs.Parsing.{start_of}
use Rattle.bidel_script.specs.Tails.{is_over}
use Rattle.bidel_script.specs.Lengths.{part}
use Rattle.bidel_script.proofs.LengthLemmas.{none_empty, first_empty, fault_short, over_end, bad_place}
use Rattle.bidel_script.proofs.front.stop_behind.Goals as goal

pub returns-in-BadToken : goal.returns-in-BadToken
returns-in-BadToken c =
    let bytes = c.args.bytes.now in
    let tokens = c.args.tokens.now in
    let said = ap (lexemes bytes) c.requires.none in
    let place : length bytes ≡ start_of (length bytes) (drop 0 tokens) = ap (start_of (length bytes)) (sym c.requires.none) in
    record {
      none = none_empty (is_over c.args.tail.last) (lexemes bytes tokens) said;
      short = fault_short bytes c.args.tail tokens 0 (omega arith) (none_empty true (lexemes bytes tokens) said) (first_empty (lexemes bytes tokens) said)
          (sym (c.is_long_fault.ensures 0 (omega arith) place) ∙ c.if-not-is_long_fault.true);
      token = 0;
      within = omega arith;
      first = first_empty (lexemes bytes tokens) said;
      seen = inr (c.requires.over, inr (c.in-BadToken.at, c.in-BadToken.is));
      place = bad_place bytes tokens c.args.tail.last c.in-BadToken.at c.requires.none c.in-BadToken.is (c.requires.fits.within c.in-BadToken.at c.in-BadToken.is);
    }

pub returns-in-BadToken-2 : goal.returns-in-BadToken-2
returns-in-BadToken-2 c =
    let bytes = c.args.bytes.now in
    let tokens = c.args.tokens.now in
    let said = ap (lexemes bytes) c.requires.none in
    let place : length bytes ≡ start_of (length bytes) (drop 0 tokens) = ap (start_of (length bytes)) (sym c.requires.none) in
    part 0 (omega arith) (none_empty true (lexemes bytes tokens) said) (first_empty (lexemes bytes tokens) said)
    (sym (c.is_long_fault.ensures 0 (omega arith) place) ∙ c.if-not-is_long_fault.false)

pub returns-in_default : goal.returns-in_default
returns-in_default c = (c.requires.none, over_end c.args.tail.last c.requires.fits.none c.requires.over c.in_default.not-BadToken)
