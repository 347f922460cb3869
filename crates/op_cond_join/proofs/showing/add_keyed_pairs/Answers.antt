use Rattle.std.proofs.Common.{ℕ, List, ◌++◌, filter, ap, ◌∙◌}
use Rattle.equal_columns.proofs.MatchLaws.{shown_match}
use Rattle.op_cond_join.specs.Joinings.{joining}
use Rattle.pair_rows.specs.inner.Changed.{pairs_of}
use Rattle.op_cond_join.specs.inner.Calls.{is_new_in}
use Rattle.op_cond_join.proofs.showing.add_keyed_pairs.Goals as goal

pub returns : goal.returns
returns g c =
    let it = c.args.it.now in
    let j = joining it.join.now in
    let a = c.args.row.now.0 in
    c.in_ok-add_new_pairs.ensures
    ∙ ap (λ (bs : List ℕ). c.args.made.now ++ filter (is_new_in it) (pairs_of a bs)) c.as_slice.ensures
    ∙ ap (λ (xs : List (ℕ × ℕ)). c.args.made.now ++ xs) (c.in_ok-ids.ensures j j.condition it.new_t.now.rows c.requires.rise c.requires.keyed a (is_new_in it) (shown_match j it.s.now.rows it.t.now.rows it.memory.now.entries it.new_s.now.rows it.new_t.now.rows c.args.row.now.1 a c.requires.there))
