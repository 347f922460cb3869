use Rattle.std.proofs.Common.{ℕ, List, ◌++◌, filter, ap, sym, ◌∙◌}
use Rattle.row_store.specs.Rows.{row_of}
use Rattle.op_cond_join.specs.Joinings.{joining}
use Rattle.pair_rows.specs.inner.Changed.{pairs_of}
use Rattle.op_cond_join.specs.inner.Calls.{is_new_in}
use Rattle.pair_rows.proofs.ChangedLemmas.{before_is, rows_of, changed_pairs}
use Rattle.op_cond_join.proofs.showing.add_pairs_of.Goals as goal

pub returns-then-is_as_before : goal.returns-then-is_as_before
returns-then-is_as_before g c =
    let it = c.args.it.now in
    let a = c.args.row.now.0 in
    let nt = it.new_t.now.rows in
    let same = before_is (row_of it.s.now.rows a) c.args.row.now.1 (sym c.is_as_before.ensures ∙ c.if-is_as_before.true) ∙ sym c.requires.there in
    c.in_ok-add_new_pairs.ensures
    ∙ ap (λ (bs : List ℕ). c.args.made.now ++ filter (is_new_in it) (pairs_of a bs)) (c.as_slice.ensures ∙ c.requires.seconds.changed_of)
    ∙ ap (λ (xs : List (ℕ × ℕ)). c.args.made.now ++ xs) (changed_pairs (joining it.join.now) it.s.now.rows it.t.now.rows it.memory.now.entries it.new_s.now.rows nt a nt same (rows_of 0 nt c.requires.seconds.rise))
