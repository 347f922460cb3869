use Rattle.std.proofs.Common.{◌≡◌, ◌∙◌, ℕ, ap, arith, drop, take}
use Rattle.bidel_script.specs.Places.{behind_all}
use Rattle.bidel_script.specs.Tails.{first_byte}
use Rattle.bidel_script.specs.Calls.{place_view}
use Rattle.bidel_script.proofs.BlanksLaws.{passed_within}
use Rattle.script_stream.proofs.input.without_blanks.Goals as goal

pub bytes_from-requires : goal.bytes_from-requires
bytes_from-requires c =
    let e : c.pass_blanks-blanks.result.upto ≡ first_byte c.args.inside 0 c.args.bytes.now = c.pass_blanks-blanks.ensures.upto in
    omega (arith, e, passed_within c.args.inside c.args.bytes.now)

pub place_after-requires-clause-within : goal.place_after-requires-clause-within
place_after-requires-clause-within c =
    let e : c.pass_blanks-blanks.result.upto ≡ first_byte c.args.inside 0 c.args.bytes.now = c.pass_blanks-blanks.ensures.upto in
    omega (arith, e, passed_within c.args.inside c.args.bytes.now)

pub place_after-requires-clause-line : goal.place_after-requires-clause-line
place_after-requires-clause-line c =
    let e : c.pass_blanks-blanks.result.upto ≡ first_byte c.args.inside 0 c.args.bytes.now = c.pass_blanks-blanks.ensures.upto in
    omega (arith, e, passed_within c.args.inside c.args.bytes.now, c.requires.line)

pub place_after-requires-clause-column : goal.place_after-requires-clause-column
place_after-requires-clause-column c =
    let e : c.pass_blanks-blanks.result.upto ≡ first_byte c.args.inside 0 c.args.bytes.now = c.pass_blanks-blanks.ensures.upto in
    omega (arith, e, passed_within c.args.inside c.args.bytes.now, c.requires.column)

pub returns : goal.returns
returns c =
    let bytes = c.args.bytes.now in
    let e : c.pass_blanks-blanks.result.upto ≡ first_byte c.args.inside 0 bytes = c.pass_blanks-blanks.ensures.upto in
    record {
      passed = e;
      within = omega (arith, e, passed_within c.args.inside bytes);
      bytes = c.in_ok-bytes_from.ensures ∙ ap (λ (n : ℕ). drop n bytes) e;
      inside = c.pass_blanks-blanks.ensures.inside;
      place = c.place_after.ensures ∙ ap (λ (n : ℕ). behind_all (place_view c.args.from) (take n bytes)) e;
    }
