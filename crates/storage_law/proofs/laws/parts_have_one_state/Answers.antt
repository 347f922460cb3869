use Rattle.version_model.specs.States.{headings}
use Rattle.storage_law.specs.Storage.{stored_way}
use Rattle.storage_law.proofs.ReadLaws.{far_right, one_state, read_at, read_back}
use Rattle.storage_law.proofs.laws.parts_have_one_state.Goals as goal

pub returns-clause-one : goal.returns-clause-one
returns-clause-one g c reads es edges storage valid a b first second = one_state g.O.Operator.meaning g.met.O.Operator.laws reads es edges storage valid a b first second

pub returns-clause-read : goal.returns-clause-read
returns-clause-read g c reads es edges storage valid s st = read_back g.O.Operator.meaning g.met.O.Operator.laws reads es storage valid s edges st

pub returns-clause-over : goal.returns-clause-over
returns-clause-over g c reads es storage valid s st e at rows near =
    let meaning = g.O.Operator.meaning in
    let laws = g.met.O.Operator.laws in
    far_right meaning laws (headings es) storage s (stored_way storage.layout e) (read_at meaning laws reads es storage valid s st e at) rows near
