use Rattle.std.proofs.Common.{◌-◌, ◌≤◌, length, take, drop}
use Rattle.ordered_pages.specs.Entries.{AreBefore, AreBehind}
use Rattle.ordered_pages.proofs.place.place_of.Given as goal

abbrev pub invariant-loop-low : goal.invariant-loop-low
invariant-loop-low g l =
    (l.low ≤ l.high) × (l.high ≤ length l.entries)
    × AreBefore g.E.Entry.order (take l.low l.entries) (g.P.Probe.key l.probe)
    × AreBehind g.E.Entry.order (g.P.Probe.key l.probe) (drop l.high l.entries)

abbrev pub decreases-loop-low : goal.decreases-loop-low
decreases-loop-low g l = l.high - l.low
