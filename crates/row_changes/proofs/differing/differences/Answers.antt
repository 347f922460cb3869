use Rattle.std.proofs.Common.{take, ◌+◌, get_or, sym, subst, arith}
use Rattle.row_store.specs.States.{TableState}
use Rattle.op_law.specs.Tables.{contents}
use Rattle.row_changes.specs.Changed.{TableChanges}
use Rattle.row_changes.specs.Differences.{AreDifferences, IsDifference}
use Rattle.row_changes.proofs.LoopLemmas.{differences_next}
use Rattle.row_changes.proofs.differing.differences.Goals as goal

pub loop-which-preserved : goal.loop-which-preserved
loop-which-preserved c =
    let i = c.loop-which.which in
    let before = c.index-before-which.result in
    let now = c.index-now-which.result in
    let made = c.in_ok-difference.field-0 in
    let first = subst (λ (t : TableState). IsDifference t.rows now.rows made) c.index-before-which.is c.in_ok-difference.ensures in
    let both = subst (λ (t : TableState). IsDifference (get_or c.args.before.now i before).rows t.rows made) c.index-now-which.is first in
    subst (λ (cs : TableChanges). AreDifferences (contents (take (i + 1) c.args.before.now)) (contents (take (i + 1) c.args.now.now)) cs) (sym c.in_ok-push.ensures.ok)
    (differences_next c.args.before.now c.args.now.now i before now c.loop-which.tables made c.loop-which-test.true (omega (arith, c.loop-which-test.true, c.requires)) c.loop-which.invariant both)
