use Rattle.sought_ids.specs.Found.{AreAmong}
use Rattle.write_propagation.specs.PartMade.{named_in}
use Rattle.write_propagation.proofs.parting.make_part.Given as goal

abbrev pub invariant-loop-turn : goal.invariant-loop-turn
invariant-loop-turn g l = AreAmong (named_in l.writing.written.now.changes) l.ids
