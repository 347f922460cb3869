use Rattle.std.proofs.Common.{ℕ, List, ◌++◌, filter, ap, ◌∙◌}
use Rattle.pair_rows.specs.inner.Changed.{pairs_of}
use Rattle.pair_rows.proofs.ChangedLemmas.{pairs_all}
use Rattle.op_cond_join.specs.inner.Calls.{is_new_in}
use Rattle.op_cond_join.proofs.showing.add_all_pairs.Goals as goal

pub returns-in_ok-add_new_pairs-in-None : goal.returns-in_ok-add_new_pairs-in-None
returns-in_ok-add_new_pairs-in-None g c =
    let it = c.args.it.now in
    let a = c.args.row.now.0 in
    let nt = it.new_t.now.rows in
    c.in_ok-add_new_pairs-in-None.ensures
    ∙ ap (λ (bs : List ℕ). c.args.made.now ++ filter (is_new_in it) (pairs_of a bs)) (c.as_slice.ensures ∙ c.requires.seconds.all_of)
    ∙ ap (λ (xs : List (ℕ × ℕ)). c.args.made.now ++ filter (is_new_in it) xs) (pairs_all a nt)
