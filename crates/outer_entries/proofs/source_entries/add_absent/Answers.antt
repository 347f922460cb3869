use Rattle.std.proofs.Common.{ℕ, List, filter, ap, ◌∙◌}
use Rattle.pair_rows.specs.inner.Changed.{pairs_of}
use Rattle.pair_rows.proofs.ChangedLemmas.{pairs_all}
use Rattle.outer_entries.specs.inner.Calls.{is_new_in}
use Rattle.outer_entries.proofs.EntryLemmas.{behind_absent}
use Rattle.outer_entries.proofs.source_entries.add_absent.Goals as goal

pub returns : goal.returns
returns c =
    let it = c.args.it.now in
    let test = is_new_in it in
    behind_absent test 0 it.join.now.second.now it.new_t.now.rows c.args.made.now c.add_if_new.new.made c.add_each.new.made (pairs_of 0 c.as_slice.result.now) c.in_ok-add_if_new.ensures c.in_ok-add_each.ensures
    (ap (λ (bs : List ℕ). filter test (pairs_of 0 bs)) (c.as_slice.ensures ∙ c.requires.seconds.all_of) ∙ ap (filter test) (pairs_all 0 it.new_t.now.rows))
