use Rattle.std.specs.Ordering.{is_lt}
use Rattle.std.proofs.Common.{◌∙◌, ap, sym, arith}
use Rattle.ordered_pages.proofs.PagesLemmas.{reads_low, reads_high, reads_some, middle}
use Rattle.ordered_pages.proofs.place.page_of.Goals as goal

pub first-requires : goal.first-requires
first-requires g c =
    let between = middle c.loop-high.low c.loop-high.high c.loop-high-test.true in
    reads_some c.args.pages.now _ c.index-pages-middle.result c.requires.sized (omega (arith, between.1, c.loop-high.invariant.1)) c.index-pages-middle.is

pub loop-high-preserved-then-is_lt : goal.loop-high-preserved-then-is_lt
loop-high-preserved-then-is_lt g c =
    let inv = c.loop-high.invariant in
    let between = middle c.loop-high.low c.loop-high.high c.loop-high-test.true in (
      between.0,
      omega (arith, between.1, inv.1),
      inv.2,
      reads_high g.E.Entry.order g.met.E.Entry.total c.args.pages.now _ (g.P.Probe.key c.args.probe.now) c.index-pages-middle.result c.first.result.now c.requires.rise c.requires.sized (omega (arith, between.1, inv.1)) c.index-pages-middle.is c.first.ensures
          (ap is_lt (sym c.compare.ensures) ∙ sym c.if-is_lt.ensures),
    )

pub loop-high-preserved : goal.loop-high-preserved
loop-high-preserved g c =
    let inv = c.loop-high.invariant in
    let between = middle c.loop-high.low c.loop-high.high c.loop-high-test.true in (
      between.1,
      inv.1,
      reads_low g.E.Entry.order g.met.E.Entry.total c.args.pages.now _ (g.P.Probe.key c.args.probe.now) c.index-pages-middle.result c.first.result.now c.requires.rise c.requires.sized (omega (arith, between.1, inv.1)) c.index-pages-middle.is c.first.ensures
          (ap is_lt (sym c.compare.ensures) ∙ sym c.if-is_lt.ensures),
      inv.3,
    )
