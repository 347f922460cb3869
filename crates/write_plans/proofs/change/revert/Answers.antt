use Rattle.write_plans.specs.Plans.{IsSame}
use Rattle.write_plans.proofs.LeadLemmas.{same_database}
use Rattle.write_plans.proofs.change.revert.Goals as goal

pub returns-clause-restores : goal.returns-clause-restores
returns-clause-restores g c = λ before undoes.
    let same : IsSame before c.take_back.new.db = c.take_back.ensures.same before undoes.leads in
    record { same = same; database = (same_database g.O.Operator.meaning g.met.O.Operator.laws before undoes.kept c.take_back.new.db same).1 }
