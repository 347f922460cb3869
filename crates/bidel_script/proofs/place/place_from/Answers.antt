use Rattle.std.proofs.Common.{arith}
use Rattle.bidel_script.proofs.PlaceLemmas.{step_feed, step_on, at_end}
use Rattle.bidel_script.proofs.place.place_from.Goals.{then-byte-eq10, else-byte-eq10}
use Rattle.bidel_script.proofs.place.place_from.Goals as goal

pub loop-byte-preserved : goal.loop-byte-preserved
loop-byte-preserved c =
    let bytes = c.args.bytes.now in
    elim c.if-byte-eq10.branch [
      | then-byte-eq10 w ↦ record {
        line = omega (arith, w.line-is, c.loop-byte.invariant.line);
        column = omega (arith, w.column-is);
        same = rw w.line-is (rw w.column-is (step_feed c.loop-byte.line c.loop-byte.column bytes c.loop-byte.byte-index _ c.loop-byte-test.true w.if-byte-eq10.true c.loop-byte.invariant.same));
      }
      | else-byte-eq10 w ↦ record {
        line = omega (arith, w.line-is, c.loop-byte.invariant.line);
        column = omega (arith, w.column-is, c.loop-byte.invariant.column);
        same = rw w.line-is (rw w.column-is (step_on c.loop-byte.line c.loop-byte.column bytes c.loop-byte.byte-index _ c.loop-byte-test.true w.if-byte-eq10.false c.loop-byte.invariant.same));
      }
    ]

pub returns-clause-line : goal.returns-clause-line
returns-clause-line c = (at_end c.loop-byte.line c.loop-byte.column c.args.bytes.now c.loop-byte.byte-index _ (omega (arith, c.loop-byte-test.false)) c.loop-byte.invariant.same).0

pub returns-clause-column : goal.returns-clause-column
returns-clause-column c = (at_end c.loop-byte.line c.loop-byte.column c.args.bytes.now c.loop-byte.byte-index _ (omega (arith, c.loop-byte-test.false)) c.loop-byte.invariant.same).1
