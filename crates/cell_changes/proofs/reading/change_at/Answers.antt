use Rattle.cell_changes.proofs.PlaceLemmas.{found_here, found_none, found_other}
use Rattle.cell_changes.proofs.reading.change_at.Goals as goal

pub returns-then-change-id : goal.returns-then-change-id
returns-then-change-id c = found_here c.args.changes.now c.args.id c.place_of-at.result c.in-Some.change.now c.place_of-at.ensures c.in-Some.ensures c.if-change-id.true

pub returns-else-change-id : goal.returns-else-change-id
returns-else-change-id c = found_other c.args.changes.now c.args.id c.place_of-at.result c.in-Some.change.now c.place_of-at.ensures c.in-Some.ensures c.if-change-id.false

pub returns-in-None : goal.returns-in-None
returns-in-None c = found_none c.args.changes.now c.args.id c.place_of-at.result c.place_of-at.ensures c.in-None.ensures
