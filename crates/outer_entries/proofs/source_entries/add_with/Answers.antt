use Rattle.std.proofs.Common.{ℕ, List, filter, ap, ◌∙◌}
use Rattle.pair_rows.specs.inner.Changed.{pairs_of}
use Rattle.outer_entries.specs.inner.Calls.{is_new_in}
use Rattle.outer_entries.proofs.EntryLemmas.{behind_absent, entry_match}
use Rattle.outer_entries.proofs.source_entries.add_with.Goals as goal

pub returns : goal.returns
returns c =
    let it = c.args.it.now in
    let test = is_new_in it in
    let a = c.args.row.now.0 in
    behind_absent test a it.join.now.second.now it.new_t.now.rows c.args.made.now c.add_if_new.new.made c.add_each.new.made (pairs_of a c.as_slice.result.now) c.in_ok-add_if_new.ensures c.in_ok-add_each.ensures
    (ap (λ (bs : List ℕ). filter test (pairs_of a bs)) c.as_slice.ensures ∙ c.in_ok-ids.ensures it c.requires.seconds a test (entry_match it c.args.row.now.1 a c.requires.from c.requires.there))
