use Rattle.db_state.specs.Fields.{state_for}
use Rattle.kept_keys.specs.Kept.{AreKeysOf}
use Rattle.write_propagation.proofs.filling.fill_keys.Given as goal

abbrev pub invariant-loop-one : goal.invariant-loop-one
invariant-loop-one g l = AreKeysOf (state_for g.O.Operator.meaning l.db).tables l.keys.items
