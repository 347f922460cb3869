use Rattle.std.proofs.Common.{[], ◌∷◌}
use Rattle.pair_rows.specs.declared.half.Half.TheVariants.{First, Second}
use Rattle.id_closing.specs.Found.{added}
use Rattle.id_closing.proofs.FoundLaws.{added_has, added_stays}
use Rattle.cond_closing.specs.Steady.{changed_entries}
use Rattle.cond_closing.proofs.BroughtLaws.{brings_found, still_same}
use Rattle.outer_closing.proofs.placed.add_others.Goals as goal

pub returns-clause-first : goal.returns-clause-first
returns-clause-first c a is =
    let m = c.args.memory.now.entries in
    let ids = c.args.ids.now in
    let one = c.other_entry.result in
    let other = c.other_entry-2.result in
    rw (c.in_ok-add_some-2.ensures, c.in_ok-add_some.ensures)
    (still_same First m c.in_ok-these.these (c.args.id ∷ []) (added (added ids one) other) a (λ q. c.in_ok-these.ensures q)
    (brings_found (changed_entries m c.in_ok-these.these) a First one (added (added ids one) other) (λ g e. added_stays (added ids one) other g (added_has ids one g e)) (c.other_entry.ensures a is)))

pub returns-clause-second : goal.returns-clause-second
returns-clause-second c a is =
    let m = c.args.memory.now.entries in
    let ids = c.args.ids.now in
    let one = c.other_entry.result in
    let other = c.other_entry-2.result in
    rw (c.in_ok-add_some-2.ensures, c.in_ok-add_some.ensures)
    (still_same Second m c.in_ok-these.these (c.args.id ∷ []) (added (added ids one) other) a (λ q. c.in_ok-these.ensures q)
    (brings_found (changed_entries m c.in_ok-these.these) a Second other (added (added ids one) other) (λ g e. added_has (added ids one) other g e) (c.other_entry-2.ensures a is)))

pub returns-clause-stay : goal.returns-clause-stay
returns-clause-stay c q h =
    let ids = c.args.ids.now in
    rw (c.in_ok-add_some-2.ensures, c.in_ok-add_some.ensures) (added_stays (added ids c.other_entry.result) c.other_entry-2.result q (added_stays ids c.other_entry.result q h))
