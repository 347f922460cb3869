use Rattle.std.proofs.Common.{◌+◌, ◌≡◌, suc, slice_set, subst, arith, ℕ}
use Rattle.pair_changes.proofs.TurnLemmas.{AreTurned, turn_end, turn_more}
use Rattle.pair_changes.proofs.puts.turn_all.Goals as goal

pub loop-change-preserved : goal.loop-change-preserved
loop-change-preserved c =
    let i = c.loop-change.change-index in
    let one : suc i ≡ i + 1 = omega arith in
    subst (λ (n : ℕ). AreTurned n c.args.changes.now (slice_set c.loop-change.changes i c.turn.new.change)) one
    (turn_more i c.args.changes.now c.loop-change.changes _ c.turn.new.change c.loop-change-test.true c.loop-change.invariant c.turn.ensures)

pub returns : goal.returns
returns c = turn_end c.loop-change.change-index c.args.changes.now c.loop-change.changes c.loop-change-test.false c.loop-change.invariant
