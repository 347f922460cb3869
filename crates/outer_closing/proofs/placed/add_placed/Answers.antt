use Rattle.std.proofs.Common.{◌≡◌, ℕ, true, ◌∙◌}
use Rattle.op_law.specs.Identifiers.{has_id}
use Rattle.id_closing.specs.Found.{added}
use Rattle.id_closing.proofs.FoundLaws.{added_has, added_stays}
use Rattle.outer_closing.proofs.placed.add_placed.Goals as goal

pub returns-clause-found : goal.returns-clause-found
returns-clause-found c s t known =
    let ids = c.args.ids.now in
    let one = c.in_ok-first.first.found in
    let other = c.in_ok-second.second.found in
    let entry = c.entry_of.result in
    let with_one = added ids one in
    let with_both = added with_one other in
    let listed : (q : ℕ) → has_id (added with_both entry) q ≡ true → has_id c.add_others.new.ids q ≡ true =
    λ q h. c.in_ok-add_others.ensures.stay q (rw (c.in_ok-add_some-3.ensures, c.in_ok-add_some-2.ensures, c.in_ok-add_some.ensures) h) in
    record {
      first = record {
        found = λ a e. listed a (added_stays with_both entry a (added_stays with_one other a (added_has ids one a (c.in_ok-first.ensures.found s t a known e))));
        other = λ a e. c.in_ok-add_others.ensures.first a (c.in_ok-first.ensures.kept ∙ e);
      };
      second = record {
        found = λ b e. listed b (added_stays with_both entry b (added_has with_one other b (c.in_ok-second.ensures.found s t b known e)));
        other = λ b e. c.in_ok-add_others.ensures.second b (c.in_ok-second.ensures.kept ∙ e);
      };
      pair = λ a b e one_found other_found at. listed e (added_has with_both entry e (c.entry_of.ensures a b e (c.in_ok-first.ensures.found s t a known one_found) (c.in_ok-second.ensures.found s t b known other_found) at));
    }

pub returns-clause-stay : goal.returns-clause-stay
returns-clause-stay c q h =
    let ids = c.args.ids.now in
    let with_one = added ids c.in_ok-first.first.found in
    let with_both = added with_one c.in_ok-second.second.found in
    c.in_ok-add_others.ensures.stay q
    (rw (c.in_ok-add_some-3.ensures, c.in_ok-add_some-2.ensures, c.in_ok-add_some.ensures)
    (added_stays with_both c.entry_of.result q (added_stays with_one c.in_ok-second.second.found q (added_stays ids c.in_ok-first.first.found q h))))
