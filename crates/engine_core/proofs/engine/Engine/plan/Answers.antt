use Rattle.std.proofs.Common.{map, sym, subst}
use Rattle.std.specs.List.{All}
use Rattle.par_base.specs.declared.fault.Fault.TheVariants.{Refused}
use Rattle.par_base.specs.declared.refusal.Refusal.TheVariants.{NotBuilt}
use Rattle.statements.specs.Views.{assignment_view, statement_view}
use Rattle.engine_statements.specs.Calls.{AssignmentFits}
use Rattle.engine_core.proofs.BoundLemmas.{plans_none}
use Rattle.engine_core.proofs.TextLaws.{assignments_fit}
use Rattle.engine_core.proofs.engine.Engine.plan.Goals as goal

pub plan_update-requires-clause-fits : goal.plan_update-requires-clause-fits
plan_update-requires-clause-fits g c =
    let texts = rw c.in-Update.is at c.requires.texts in
    subst (λ l. All AssignmentFits (map assignment_view l)) (sym c.as_slice-in-Update.ensures) (assignments_fit (map assignment_view c.in-Update.assignments) texts.0)

pub returns-in_default-clause-insert : goal.returns-in_default-clause-insert
returns-in_default-clause-insert g c = plans_none (statement_view c.args.statement.now) (Refused NotBuilt) c.args.steps.now
