use Rattle.storage_law.proofs.CanonicalLaws.{parts_are_one, sound_stands}
use Rattle.storage_law.proofs.laws.sound_states_have_parts.Goals as goal

pub returns-clause-stand : goal.returns-clause-stand
returns-clause-stand g c es edges s sound layout = sound_stands g.O.Operator.meaning es edges s sound layout

pub returns-clause-one : goal.returns-clause-one
returns-clause-one g c es s p q same first second = parts_are_one g.O.Operator.meaning es s p q same first second
