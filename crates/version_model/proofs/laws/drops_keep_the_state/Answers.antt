use Rattle.version_model.proofs.DropLaws.{drop_keeps}
use Rattle.version_model.proofs.EvolveLaws.{empty_sound}
use Rattle.version_model.proofs.laws.drops_keep_the_state.Goals as goal

pub returns-clause-drop : goal.returns-clause-drop
returns-clause-drop g c es needed s edges sound = drop_keeps g.O.Operator.meaning es needed s edges sound

pub returns-clause-empty : goal.returns-clause-empty
returns-clause-empty g c n drawn = empty_sound g.O.Operator.meaning n drawn
