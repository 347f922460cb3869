use Rattle.std.specs.Ordering.{is_eq, is_lt}
use Rattle.std.proofs.Common.{◌∙◌, ap, sym, arith}
use Rattle.ordered_pages.proofs.OrderLaws.{is_less}
use Rattle.ordered_pages.proofs.PagesLemmas.{middle}
use Rattle.ordered_pages.proofs.FindLemmas.{low_at, high_at, halved, upper_half, lower_half, there, nowhere}
use Rattle.ordered_pages.proofs.find.find_entry.Goals as goal

pub loop-high-preserved-then-is_lt : goal.loop-high-preserved-then-is_lt
loop-high-preserved-then-is_lt g c =
    let inv = c.loop-high.invariant in
    let between = middle c.loop-high.low c.loop-high.high c.loop-high-test.true in (
      between.0,
      omega (arith, between.1, inv.1),
      inv.2,
      high_at g.E.Entry.order g.met.E.Entry.total c.args.entries.now _ (g.P.Probe.key c.args.probe.now) c.index-entries-middle.result c.requires.rise (omega (arith, between.1, inv.1)) c.index-entries-middle.is
          (is_less _ (ap is_lt (sym c.compare.ensures) ∙ sym c.if-is_lt.ensures)),
      halved _ _ _ _ _ _ c.loop-high-test.true (lower_half c.loop-high.low c.loop-high.high) c.tick.ensures inv.4,
    )

pub loop-high-preserved : goal.loop-high-preserved
loop-high-preserved g c =
    let inv = c.loop-high.invariant in
    let between = middle c.loop-high.low c.loop-high.high c.loop-high-test.true in (
      between.1,
      inv.1,
      low_at g.E.Entry.order g.met.E.Entry.total c.args.entries.now _ (g.P.Probe.key c.args.probe.now) c.index-entries-middle.result c.requires.rise (omega (arith, between.1, inv.1)) c.index-entries-middle.is
          (ap is_lt (sym c.compare.ensures) ∙ sym c.if-is_lt.ensures),
      inv.3,
      halved _ _ _ _ _ _ c.loop-high-test.true (upper_half c.loop-high.low c.loop-high.high inv.0) c.tick.ensures inv.4,
    )

pub returns-then-is_eq-clause-value : goal.returns-then-is_eq-clause-value
returns-then-is_eq-clause-value g c =
    let inv = c.loop-high.invariant in
    there g.E.Entry.order g.met.E.Entry.total c.args.entries.now c.loop-high.low c.loop-high.high (g.P.Probe.key c.args.probe.now) c.index-entries-low.result inv.0 inv.1 (omega (arith, c.loop-high-test.false)) inv.2 inv.3 c.index-entries-low.is
    (ap is_eq (sym c.compare-2.ensures) ∙ sym c.if-is_eq.ensures)

pub returns-clause-value : goal.returns-clause-value
returns-clause-value g c =
    let inv = c.loop-high.invariant in
    nowhere g.E.Entry.order g.met.E.Entry.total c.args.entries.now c.loop-high.low c.loop-high.high (g.P.Probe.key c.args.probe.now) c.index-entries-low.result inv.0 inv.1 (omega (arith, c.loop-high-test.false)) inv.2 inv.3 c.index-entries-low.is
    (ap is_eq (sym c.compare-2.ensures) ∙ sym c.if-is_eq.ensures)
