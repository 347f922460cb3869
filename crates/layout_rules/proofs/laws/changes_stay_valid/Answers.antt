use Rattle.layout_rules.proofs.ChangeLaws.{dropped_valid, evolved_valid}
use Rattle.layout_rules.proofs.laws.changes_stay_valid.Goals as goal

pub returns-clause-evolved : goal.returns-clause-evolved
returns-clause-evolved g c d name w edges graph layout valid = evolved_valid d name w edges graph layout valid

pub returns-clause-dropped : goal.returns-clause-dropped
returns-clause-dropped g c d name graph layout valid = dropped_valid d name graph layout valid
