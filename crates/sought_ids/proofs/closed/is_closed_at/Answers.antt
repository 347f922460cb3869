use Rattle.version_model.specs.Calls.{crossing_of}
use Rattle.sought_ids.specs.Sought.{kept_in}
use Rattle.sought_ids.proofs.SoughtLemmas.{closes_told}
use Rattle.sought_ids.proofs.closed.is_closed_at.Goals as goal

pub returns-in_ok-closed-in-Some : goal.returns-in_ok-closed-in-Some
returns-in_ok-closed-in-Some g c is =
    closes_told g.O.Operator.meaning g.O.Seeks.seeks c.args.graph.now.edges (kept_in c.args.kept) c.args.ids.now c.requires.edges c.args.number (crossing_of c.in-Some.over) c.in-Some.ensures (c.in_ok-closed-in-Some.ensures is)
