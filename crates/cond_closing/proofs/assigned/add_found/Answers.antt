use Rattle.std.specs.Option.{option_map}
use Rattle.std.proofs.Common.{◌≡◌, ℕ, List, Option, Some, ap, ◌∙◌}
use Rattle.id_memory.specs.Pairs.{pair_of}
use Rattle.id_closing.specs.Found.{added}
use Rattle.id_closing.proofs.FoundLaws.{added_has, added_stays}
use Rattle.cond_closing.specs.Assigned.{found_of}
use Rattle.cond_closing.proofs.assigned.add_found.Goals as goal

pub returns-clause-found : goal.returns-clause-found
returns-clause-found c s t known =
    let it = c.args.it.now in
    let old = c.args.change.now.old in
    let row = c.args.row.now in
    let one = c.in_ok-first.first in
    let other = c.in_ok-second.second in
    let entry = c.entry_of.result in
    let ids = c.args.ids.now in
    let with_one = added ids one in
    let with_both = added with_one other in
    let half : c.first_in.result ≡ _ = c.first_in.ensures ∙ ap (λ (o : Option (ℕ × ℕ)). option_map (λ pair. pair.0) o) c.get-pair.ensures in
    let other_half : c.second_in.result ≡ _ = c.second_in.ensures ∙ ap (λ (o : Option (ℕ × ℕ)). option_map (λ pair. pair.1) o) c.get-pair.ensures in
    let first_is : (a : ℕ) → found_of it.join.now.first old (option_map (λ pair. pair.0) (pair_of it.memory.now.entries c.args.change.now.id)) s row ≡ Some a → one ≡ Some a = λ a found. c.in_ok-first.ensures s a known.first
    (ap (λ (places : List ℕ). found_of places old c.first_in.result s row) c.as_slice-places.ensures ∙ ap (λ (h : Option ℕ). found_of it.join.now.first old h s row) half ∙ found) in
    let second_is : (b : ℕ) → found_of it.join.now.second old (option_map (λ pair. pair.1) (pair_of it.memory.now.entries c.args.change.now.id)) t row ≡ Some b → other ≡ Some b = λ b found. c.in_ok-second.ensures t b known.second
    (ap (λ (places : List ℕ). found_of places old c.second_in.result t row) c.as_slice-others.ensures ∙ ap (λ (h : Option ℕ). found_of it.join.now.second old h t row) other_half ∙ found) in
    record {
      first = λ a found. rw (c.in_ok-add_some-3.ensures, c.in_ok-add_some-2.ensures, c.in_ok-add_some.ensures) (added_stays with_both entry a (added_stays with_one other a (added_has ids one a (first_is a found))));
      second = λ b found. rw (c.in_ok-add_some-3.ensures, c.in_ok-add_some-2.ensures, c.in_ok-add_some.ensures) (added_stays with_both entry b (added_has with_one other b (second_is b found)));
      pair = λ a b e one_found other_found at. rw (c.in_ok-add_some-3.ensures, c.in_ok-add_some-2.ensures, c.in_ok-add_some.ensures)
          (added_has with_both entry e (c.entry_of.ensures a b e (first_is a one_found) (second_is b other_found) at));
    }

pub returns-clause-stay : goal.returns-clause-stay
returns-clause-stay c q h =
    let ids = c.args.ids.now in
    let with_one = added ids c.in_ok-first.first in
    let with_both = added with_one c.in_ok-second.second in
    rw (c.in_ok-add_some-3.ensures, c.in_ok-add_some-2.ensures, c.in_ok-add_some.ensures)
    (added_stays with_both c.entry_of.result q (added_stays with_one c.in_ok-second.second q (added_stays ids c.in_ok-first.first q h)))
