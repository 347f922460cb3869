use Rattle.std.proofs.Common.{◌∙◌}
use Rattle.ordered_pages.proofs.FindLemmas.{from_stands, from_gap}
use Rattle.ordered_pages.proofs.place.behind_in.Goals as goal

pub returns-in-Ok : goal.returns-in-Ok
returns-in-Ok g c = c.split_at.ensures.back ∙ from_stands g.E.Entry.order g.met.E.Entry.total c.args.entries.now c.in-Ok.at (g.P.Probe.key c.args.probe.now) c.requires c.in-Ok.ensures

pub returns-in-Err : goal.returns-in-Err
returns-in-Err g c = c.split_at-in-Err.ensures.back ∙ from_gap g.E.Entry.order g.met.E.Entry.total c.args.entries.now c.in-Err.at (g.P.Probe.key c.args.probe.now) c.in-Err.ensures
