use Rattle.migration.proofs.PendingLaws.{steps_arrive}
use Rattle.migration.proofs.StepLaws.{step_flips}
use Rattle.migration.proofs.laws.steps_are_flips.Goals as goal

pub returns-clause-flips : goal.returns-clause-flips
returns-clause-flips g c = step_flips c.moves_stay_valid.ensures.valid

pub returns-clause-arrive : goal.returns-clause-arrive
returns-clause-arrive g c = steps_arrive c.moves_stay_valid.ensures.valid
