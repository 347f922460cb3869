use Rattle.version_model.proofs.AscendingLaws.{way_there, some_there}
use Rattle.version_model.proofs.evolve.way_at.Goals as goal

pub returns-in_err-placed : goal.returns-in_err-placed
returns-in_err-placed g c f here = absurd (some_there c.args.graph.now.edges c.args.place f here c.in_err-placed.ensures)

pub returns : goal.returns
returns g c f here = way_there c.args.graph.now.edges c.requires c.args.place f here c.in_ok-placed.placed.now c.in_ok-placed.ensures _ c.way_of.ensures
