-- What a write makes of kept keys.
use Rattle.std.specs.Prelude.{List}
use Rattle.version_graph.specs.Sets.{Each}
use Rattle.op_law.specs.Meaning.{Meaning}
use Rattle.version_model.specs.declared.numbered.Numbered.{Numbered}
use Rattle.db_state.specs.Fields.{state_for}
use Rattle.db_state.specs.declared.parts.Parts.{Parts}
use Rattle.table_keys.specs.States.{KeysState}
use Rattle.kept_keys.specs.Kept.{AreKeysOf}
use Rattle.kept_keys.specs.Changed.{Both, CommitsKeys, IsReadyOver}
use Rattle.write_plans.specs.Plans.{Puts}
use Rattle.write_plans.specs.declared.plans.Plan.{Plan}

-- what is ready of the kept keys has their old keys, and leads to keys that are right in whatever state the plan leads to
pub record KeysLead {O : Type 0} (meaning : O → Meaning) (d : Parts O) (keys : List (Numbered KeysState)) (plan : Plan) : Type 0 where
  pub ready : Each IsReadyOver keys
  pub leads : (new : Parts O) → Puts d plan new → (after : List (Numbered KeysState)) → Both CommitsKeys keys after → AreKeysOf (state_for meaning new).tables after
