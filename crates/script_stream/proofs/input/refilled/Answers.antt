use Rattle.std.proofs.Common.{◌≡◌, ◌+◌, ◌≤◌, ◌++◌, ℕ, List, ap, arith, drop, length, refl, subst, take, ◌∙◌}
use Rattle.std.proofs.lemmas.List.{length-take-le}
use Rattle.bidel_lex.specs.declared.tokens.Token.{Token}
use Rattle.bidel_script.specs.Moved.{end_behind}
use Rattle.bidel_script.specs.Places.{Place, behind_all}
use Rattle.bidel_script.specs.Calls.{place_view}
use Rattle.bidel_script.proofs.PlaceLaws.{behind_all-near}
use Rattle.script_stream.specs.Calls.{IsKept}
use Rattle.script_stream.proofs.HoldLaws.{end_within, fed_size, place_near, used_within}
use Rattle.script_stream.proofs.FeedLemmas.{left_with, refills}
use Rattle.script_stream.proofs.input.refilled.Goals as goal

pub end_of_first-used-requires : goal.end_of_first-used-requires
end_of_first-used-requires c = let s = c.requires in rw c.as_slice.ensures.value (used_within s.0 s.1 c.args.old.now s.2)

pub place_after-behind-requires-clause-within : goal.place_after-behind-requires-clause-within
place_after-behind-requires-clause-within c =
    let s = c.requires in
    let e : c.end_of_first-used.result ≡ end_behind c.args.old.now.tokens.items c.args.old.now.used = c.end_of_first-used.ensures ∙ ap (λ (l : List Token). end_behind l c.args.old.now.used) c.as_slice.ensures.value in
    omega (arith, end_within s.0 s.1 c.args.old.now s.2, e, ap length c.as_slice-2.ensures.value)

pub place_after-behind-requires-clause-line : goal.place_after-behind-requires-clause-line
place_after-behind-requires-clause-line c =
    let s = c.requires in
    let e : c.end_of_first-used.result ≡ end_behind c.args.old.now.tokens.items c.args.old.now.used = c.end_of_first-used.ensures ∙ ap (λ (l : List Token). end_behind l c.args.old.now.used) c.as_slice.ensures.value in
    omega (arith, end_within s.0 s.1 c.args.old.now s.2, e, (place_near s.0 s.1 c.args.old.now s.2).0, fed_size s.0 s.1 c.args.old.now s.2, s.3)

pub place_after-behind-requires-clause-column : goal.place_after-behind-requires-clause-column
place_after-behind-requires-clause-column c =
    let s = c.requires in
    let e : c.end_of_first-used.result ≡ end_behind c.args.old.now.tokens.items c.args.old.now.used = c.end_of_first-used.ensures ∙ ap (λ (l : List Token). end_behind l c.args.old.now.used) c.as_slice.ensures.value in
    omega (arith, end_within s.0 s.1 c.args.old.now s.2, e, (place_near s.0 s.1 c.args.old.now s.2).1, fed_size s.0 s.1 c.args.old.now s.2, s.3)

pub bytes_and-requires : goal.bytes_and-requires
bytes_and-requires c =
    let s = c.requires in
    let e : c.end_of_first-used.result ≡ end_behind c.args.old.now.tokens.items c.args.old.now.used = c.end_of_first-used.ensures ∙ ap (λ (l : List Token). end_behind l c.args.old.now.used) c.as_slice.ensures.value in
    omega (arith, end_within s.0 s.1 c.args.old.now s.2, e, ap length c.as_slice-3.ensures.value)

pub without_blanks-requires-clause-line : goal.without_blanks-requires-clause-line
without_blanks-requires-clause-line c =
    let s = c.requires in
    let old = c.args.old.now in
    let used = c.end_of_first-used.result in
    let e : c.end_of_first-used.result ≡ end_behind c.args.old.now.tokens.items c.args.old.now.used = c.end_of_first-used.ensures ∙ ap (λ (l : List Token). end_behind l c.args.old.now.used) c.as_slice.ensures.value in
    let within : used ≤ length c.as_slice-2.result.now = omega (arith, end_within s.0 s.1 old s.2, e, ap length c.as_slice-2.ensures.value) in
    let near = behind_all-near (place_view old.place) (take used c.as_slice-2.result.now) in
    omega (
      arith,
      near.0,
      ap (λ (p : Place). p.line) c.place_after-behind.ensures,
      length-take-le used c.as_slice-2.result.now within,
      within,
      ap length c.as_slice-2.ensures.value,
      (place_near s.0 s.1 old s.2).0,
      fed_size s.0 s.1 old s.2,
      s.3,
      ap length c.as_slice-4.ensures.value,
      c.in_ok-bytes.bytes.ok.0,
      c.in_ok-bytes.bytes.ok.1,
      c.in_ok-bytes.bytes.small,
    )

pub without_blanks-requires-clause-column : goal.without_blanks-requires-clause-column
without_blanks-requires-clause-column c =
    let s = c.requires in
    let old = c.args.old.now in
    let used = c.end_of_first-used.result in
    let e : c.end_of_first-used.result ≡ end_behind c.args.old.now.tokens.items c.args.old.now.used = c.end_of_first-used.ensures ∙ ap (λ (l : List Token). end_behind l c.args.old.now.used) c.as_slice.ensures.value in
    let within : used ≤ length c.as_slice-2.result.now = omega (arith, end_within s.0 s.1 old s.2, e, ap length c.as_slice-2.ensures.value) in
    let near = behind_all-near (place_view old.place) (take used c.as_slice-2.result.now) in
    omega (
      arith,
      near.1,
      ap (λ (p : Place). p.column) c.place_after-behind.ensures,
      length-take-le used c.as_slice-2.result.now within,
      within,
      ap length c.as_slice-2.ensures.value,
      (place_near s.0 s.1 old s.2).1,
      fed_size s.0 s.1 old s.2,
      s.3,
      ap length c.as_slice-4.ensures.value,
      c.in_ok-bytes.bytes.ok.0,
      c.in_ok-bytes.bytes.ok.1,
      c.in_ok-bytes.bytes.small,
    )

pub overflow_add-result : goal.overflow_add-result
overflow_add-result c =
    let s = c.requires in
    let e : c.end_of_first-used.result ≡ end_behind c.args.old.now.tokens.items c.args.old.now.used = c.end_of_first-used.ensures ∙ ap (λ (l : List Token). end_behind l c.args.old.now.used) c.as_slice.ensures.value in
    omega (arith, end_within s.0 s.1 c.args.old.now s.2, e, fed_size s.0 s.1 c.args.old.now s.2, s.3)

pub overflow_add-result-2 : goal.overflow_add-result-2
overflow_add-result-2 c =
    let s = c.requires in
    let e : c.end_of_first-used.result ≡ end_behind c.args.old.now.tokens.items c.args.old.now.used = c.end_of_first-used.ensures ∙ ap (λ (l : List Token). end_behind l c.args.old.now.used) c.as_slice.ensures.value in
    omega (arith, end_within s.0 s.1 c.args.old.now s.2, e, fed_size s.0 s.1 c.args.old.now s.2, s.3, c.in_ok-kept.ensures.within, ap length c.as_slice-4.ensures.value, c.in_ok-bytes.bytes.ok.0, c.in_ok-bytes.bytes.ok.1, c.in_ok-bytes.bytes.small)

pub returns : goal.returns
returns c =
    let old = c.args.old.now in
    let piece = c.args.piece.now in
    let kept = c.in_ok-kept.kept in
    let there = c.place_after-behind.result in
    let e : c.end_of_first-used.result ≡ end_behind old.tokens.items old.used = c.end_of_first-used.ensures ∙ ap (λ (l : List Token). end_behind l old.used) c.as_slice.ensures.value in
    let left : c.as_slice-4.result.now ≡ left_with old piece =
    c.as_slice-4.ensures.value ∙ c.in_ok-bytes.ensures ∙ ap (λ (l : List ℕ). drop c.end_of_first-used.result l ++ piece) c.as_slice-3.ensures.value ∙ ap (λ (n : ℕ). drop n old.bytes.items ++ piece) e in
    refills old _ piece kept c.requires (record {
      behind = place_view there;
      gone = c.place_after-behind.ensures ∙ ap (λ (l : List ℕ). behind_all (place_view old.place) (take c.end_of_first-used.result l)) c.as_slice-2.ensures.value
          ∙ ap (λ (n : ℕ). behind_all (place_view old.place) (take n old.bytes.items)) e;
      is_kept = subst (λ (l : List ℕ). IsKept l old.inside (place_view there) kept) left c.in_ok-kept.ensures;
      bytes = refl;
      inside = refl;
      all = rw c.as_slice-5.ensures.value at c.in_ok-all.ensures.all;
      fits = rw c.as_slice-5.ensures.value at c.in_ok-all.ensures.fits;
      used = refl;
      before = ap (λ (n : ℕ). old.before + n + kept.passed) e;
      place = refl;
    })
