use Rattle.std.proofs.Common.{sym}
use Rattle.version_model.proofs.crossing.way_of.Goals as goal

pub returns : goal.returns
returns g c = (c.in_ok-placed.placed.now, c.in_ok-sources.sources.now, sym c.in_ok-placed.ensures, sym c.in_ok-sources.ensures, c.way_over.ensures)
