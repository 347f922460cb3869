-- A plan may be put into the database for which it was made.
use Rattle.std.proofs.Common.{◌≡◌, ℕ, Ok}
use Rattle.row_store.specs.Rows.{Rows}
use Rattle.op_law.specs.Meaning.{Meaning}
use Rattle.db_state.specs.declared.parts.Parts.{Parts}
use Rattle.write_plans.specs.Plans.{Plans, Puts}
use Rattle.write_plans.specs.Room.{IsReadyFor, MayCommit}
use Rattle.write_plans.specs.declared.plans.Plan.{Plan}

-- what is planned and ready may be put in
pub may_commit : {O : Type 0} (meaning : O → Meaning) (d : Parts O) (w t : ℕ) (rows : Rows) (next : ℕ) (plan : Plan) → Plans meaning d w t rows next (Ok plan) → IsReadyFor d plan → MayCommit meaning d plan
may_commit meaning d w t rows next plan plans ready = record { ready = ready; leaves = λ new puts. (plans.1 new puts).0 }

-- it leaves the layout
pub puts_layout : {O : Type 0} (old new : Parts O) (plan : Plan) → Puts old plan new → new.layout ≡ old.layout
puts_layout old new plan puts = puts.layout
