use Rattle.std.proofs.Common.{◌-◌, ◌<◌, ◌≤◌, length, take, drop}
use Rattle.ordered_pages.specs.Entries.{AreBefore, AreBehind}
use Rattle.ordered_pages.proofs.FindLemmas.{Halved}
use Rattle.ordered_pages.proofs.find.find_entry.Given as goal

abbrev pub invariant-loop-high : goal.invariant-loop-high
invariant-loop-high g l =
    (l.low < l.high) × (l.high ≤ length l.entries)
    × AreBefore g.E.Entry.order (take l.low l.entries) (g.P.Probe.key l.probe)
    × AreBehind g.E.Entry.order (g.P.Probe.key l.probe) (drop l.high l.entries)
    × Halved (length l.entries) (l.high - l.low) l.fn.steps l.steps

abbrev pub decreases-loop-high : goal.decreases-loop-high
decreases-loop-high g l = l.high - l.low
