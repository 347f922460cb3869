use Rattle.std.proofs.Common.{take, ◌+◌, get_or, sym, subst, arith}
use Rattle.row_store.specs.Rows.{row_of}
use Rattle.row_store.specs.States.{TableState}
use Rattle.op_law.specs.Tables.{contents}
use Rattle.row_changes.specs.Changed.{TableChanges}
use Rattle.row_changes.specs.Picked.{Picks, PicksEach}
use Rattle.row_changes.proofs.LoopLemmas.{picks_next}
use Rattle.row_changes.proofs.differing.differences_at.Goals as goal

pub loop-which-preserved : goal.loop-which-preserved
loop-which-preserved c =
    let i = c.loop-which.which in
    let before = c.index-before-which.result in
    let now = c.index-now-which.result in
    let made = c.in_ok-difference_at.field-0 in
    let picks = subst (λ (t : TableState). Picks (row_of t.rows) (row_of now.rows) c.args.ids.now made) c.index-before-which.is c.in_ok-difference_at.ensures in
    let both = subst (λ (t : TableState). Picks (row_of (get_or c.args.before.now i before).rows) (row_of t.rows) c.args.ids.now made) c.index-now-which.is picks in
    subst (λ (cs : TableChanges). PicksEach c.args.ids.now (contents (take (i + 1) c.args.before.now)) (contents (take (i + 1) c.args.now.now)) cs) (sym c.in_ok-push.ensures.ok)
    (picks_next c.args.ids.now c.args.before.now c.args.now.now i before now c.loop-which.tables made c.loop-which-test.true (omega (arith, c.loop-which-test.true, c.requires.many)) c.loop-which.invariant both)
