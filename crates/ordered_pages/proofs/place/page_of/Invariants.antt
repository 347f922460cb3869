use Rattle.std.proofs.Common.{◌-◌, ◌<◌, ◌≤◌, length, take, drop}
use Rattle.ordered_pages.specs.Entries.{AreBefore, AreBehind}
use Rattle.ordered_pages.specs.inner.Pages.{all_entries}
use Rattle.ordered_pages.proofs.place.page_of.Given as goal

abbrev pub invariant-loop-high : goal.invariant-loop-high
invariant-loop-high g l =
    (l.low < l.high) × (l.high ≤ length l.pages)
    × AreBefore g.E.Entry.order (all_entries (take l.low l.pages)) (g.P.Probe.key l.probe)
    × AreBehind g.E.Entry.order (g.P.Probe.key l.probe) (all_entries (drop l.high l.pages))

abbrev pub decreases-loop-high : goal.decreases-loop-high
decreases-loop-high g l = l.high - l.low
