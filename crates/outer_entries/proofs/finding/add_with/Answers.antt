use Rattle.std.proofs.Common.{ℕ, List, filter, ap, ◌∙◌, subst}
use Rattle.pair_rows.specs.inner.Changed.{pairs_of}
use Rattle.id_sets.specs.IdPairs.{IdPairs}
use Rattle.equal_columns.proofs.MatchLaws.{shown_match}
use Rattle.outer_entries.specs.Showings.{joining_in}
use Rattle.outer_entries.specs.inner.Calls.{is_new_full}
use Rattle.outer_entries.specs.inner.Finding.{AddsPairs}
use Rattle.outer_entries.proofs.finding.add_with.Goals as goal

pub returns : goal.returns
returns g c =
    let it = c.args.it.now in
    let a = c.args.row.now.0 in
    let enough = c.in_ok-ids.ensures it c.requires.seconds a (is_new_full it) (shown_match (joining_in it) it.s.now.rows it.t.now.rows it.memory.now.entries it.new_s.now.rows it.new_t.now.rows c.args.row.now.1 a c.requires.there) in
    subst (λ (xs : IdPairs). AddsPairs c.args.found.now xs c.add_each.new.found) (ap (λ (bs : List ℕ). filter (is_new_full it) (pairs_of a bs)) c.as_slice.ensures ∙ enough) c.in_ok-add_each.ensures
