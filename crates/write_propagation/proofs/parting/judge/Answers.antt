use Rattle.write_propagation.proofs.PartTriedLemmas.{made_up}
use Rattle.write_propagation.proofs.parting.judge.Goals as goal

pub sees_all-requires-clause-rises : goal.sees_all-requires-clause-rises
sees_all-requires-clause-rises g c =
    made_up g.O.Operator.meaning g.O.Seeks.seeks g.met.O.Operator.laws g.met.O.Seeks.seeking c.args.db.now c.args.writing.tree.now c.args.writing.written.now c.requires.may c.args.keys.now c.requires.right c.args.part.ids c.requires.closed
    c.args.part.making c.requires.made
