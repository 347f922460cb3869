-- When a plan may be put into a database.
use Rattle.op_law.specs.Meaning.{Meaning}
use Rattle.db_state.specs.Fields.{IsDatabase}
use Rattle.db_state.specs.declared.parts.Parts.{Parts}
use Rattle.kept_changes.specs.Changes.{AreOldAt, AreSidesAt, AreMemoriesAt}
use Rattle.kept_changes.specs.Room.{FitAt, SidesFitAt, MemoriesFitAt}
use Rattle.write_plans.specs.Plans.{Puts}
use Rattle.write_plans.specs.declared.plans.Plan.{Plan}

-- each change has the old row of its table, and those of a memory lead to another one
pub record HasOld {O : Type 0} (d : Parts O) (plan : Plan) : Type 0 where
  pub stored : AreOldAt d.stored plan.stored
  pub auxes : AreSidesAt d.aux plan.auxes
  pub memories : AreMemoriesAt d.memories plan.memories

-- there is room for all changes
pub record HasRoom {O : Type 0} (d : Parts O) (plan : Plan) : Type 0 where
  pub stored : FitAt d.stored plan.stored
  pub auxes : SidesFitAt d.aux plan.auxes
  pub memories : MemoriesFitAt d.memories plan.memories

-- what has to be there to put a plan in
abbrev pub IsReadyFor : {O : Type 0} → Parts O → Plan → Type 0
IsReadyFor d plan = HasOld d plan × HasRoom d plan

-- a plan may be put in: it leaves a database
pub record MayCommit {O : Type 0} (meaning : O → Meaning) (d : Parts O) (plan : Plan) : Type 0 where
  pub ready : IsReadyFor d plan
  pub leaves : (new : Parts O) → Puts d plan new → IsDatabase meaning new
