use Rattle.std.proofs.Common.{◌≡◌, List, Option, ℕ, ap, ◌∙◌}
use Rattle.par_base.specs.declared.value.Value.{Value}
use Rattle.row_parts.specs.Places.{pick as part}
use Rattle.pair_rows.specs.Given.{own}
use Rattle.op_cond_join.specs.Joinings.{joining}
use Rattle.outer_law.specs.Placed.{half_there}
use Rattle.cond_closing.specs.Matching.{own_of}
use Rattle.outer_closing.specs.Assigned.{found_row, half_at, kept_half, places_at}
use Rattle.outer_closing.proofs.placed.find_half.Goals as goal

pub returns-clause-kept : goal.returns-clause-kept
returns-clause-kept c =
    let j = joining c.args.it.now.values.now.join.now in
    let half = c.args.half in
    let old = c.args.change.now.old in
    let row = c.args.row.now in
    c.in_ok-kept.ensures row c.in_ok-values.ensures
    ∙ ap (λ (places : List ℕ). own places old c.half_in-old.result row) c.places_of-places.ensures
    ∙ ap (λ (o : Option ℕ). own (places_at half j) old o row) (c.half_in-old.ensures ∙ ap (λ (pair : Option (ℕ × ℕ)). half_there (half_at half pair)) c.get.ensures)

pub returns-clause-found : goal.returns-clause-found
returns-clause-found c s t a known found =
    let j = joining c.args.it.now.values.now.join.now in
    let m = c.args.it.now.values.now.memory.now.entries in
    let replaced = c.args.it.now.replaced.now in
    let half = c.args.half in
    let rows = own_of half s t in
    let row = c.args.row.now in
    let mine : c.in_ok-kept.kept ≡ kept_half half j m c.args.change.now row = returns-clause-kept c in
    let values : c.in_ok-values.values ≡ part (places_at half j) row = c.in_ok-values.ensures ∙ ap (λ (places : List ℕ). part places row) c.places_of-places.ensures in
    c.or_shared-found.ensures s t a known
    (ap (λ (o : Option ℕ). found_row half m replaced rows o c.in_ok-values.values) mine
    ∙ ap (λ (v : List Value). found_row half m replaced rows (kept_half half j m c.args.change.now row) v) values
    ∙ found)
