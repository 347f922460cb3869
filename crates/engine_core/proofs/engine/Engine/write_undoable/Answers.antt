use Rattle.std.proofs.Common.{refl}
use Rattle.std.proofs.lemmas.Result.{err_from_is_err_and}
use Rattle.statements.specs.Views.{statement_view}
use Rattle.engine_core.specs.Kept.{data_of}
use Rattle.write_plans.proofs.HoldLaws.{holds_self}
use Rattle.write_plans.proofs.UndoLaws.{same_again}
use Rattle.engine_core.proofs.BoundLemmas.{plan_takes, write_takes}
use Rattle.engine_core.proofs.WriteLemmas.{both_stay}
use Rattle.engine_core.proofs.engine.Engine.write_undoable.Goals as goal

pub returns-in_err-plan-clause-layout : goal.returns-in_err-plan-clause-layout
returns-in_err-plan-clause-layout g c = both_stay c.args.self.now c.args.self.now c.versions_always_agree.ensures.stored refl refl

pub returns-in_err-plan-clause-steps : goal.returns-in_err-plan-clause-steps
returns-in_err-plan-clause-steps g c = plan_takes (data_of c.args.self.now) (statement_view c.args.statement.now) c.in_err-plan.field-0.0 c.args.steps.now c.plan.new.steps c.in_err-plan.ensures.insert

pub returns-clause-steps : goal.returns-clause-steps
returns-clause-steps g c = write_takes c.args.self.now (statement_view c.args.statement.now) c.in_ok-plan.plan c.args.steps.now c.plan.new.steps c.write.new.steps c.in_ok-plan.ensures.insert c.in_ok-plan.ensures.gives c.write.ensures.steps

pub returns-in_err-plan-clause-leaves : goal.returns-in_err-plan-clause-leaves
returns-in_err-plan-clause-leaves g c =
    let p = err_from_is_err_and c.from_residual.result c.from_residual.ensures.1 in
    rw p.1 (same_again c.args.self.now, holds_self c.args.self.now)
