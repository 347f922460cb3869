use Rattle.std.proofs.Common.{◌∙◌, sym, arith}
use Rattle.ordered_pages.proofs.FindLemmas.{between, high_at, past_at}
use Rattle.ordered_pages.proofs.place.place_of.Goals as goal

pub loop-low-preserved-in-Less : goal.loop-low-preserved-in-Less
loop-low-preserved-in-Less g c =
    let inv = c.loop-low.invariant in
    let inside = between c.loop-low.low c.loop-low.high c.loop-low-test.true in (
      inside.0,
      omega (arith, inside.1, inv.1),
      inv.2,
      high_at g.E.Entry.order g.met.E.Entry.total c.args.entries.now _ (g.P.Probe.key c.args.probe.now) c.index-entries-middle.result c.requires (omega (arith, inside.1, inv.1)) c.index-entries-middle.is
          (sym c.compare.ensures ∙ c.in-Less.is),
    )

pub loop-low-preserved : goal.loop-low-preserved
loop-low-preserved g c =
    let inv = c.loop-low.invariant in
    let inside = between c.loop-low.low c.loop-low.high c.loop-low-test.true in (
      omega (arith, inside.1),
      inv.1,
      past_at g.E.Entry.order g.met.E.Entry.total c.args.entries.now _ _ (g.P.Probe.key c.args.probe.now) c.index-entries-middle.result c.requires (omega (arith, inside.1, inv.1)) c.index-entries-middle.is
          (sym c.compare.ensures ∙ c.in-Greater.is) (omega arith),
      inv.3,
    )
