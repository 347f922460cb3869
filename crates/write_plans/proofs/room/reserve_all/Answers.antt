use Rattle.kept_changes.specs.Room.{capacities_at}
use Rattle.kept_changes.proofs.CapacityLaws.{at_least_same}
use Rattle.write_plans.proofs.room.reserve_all.Goals as goal

pub returns-in_err-reserve_tables-clause-aux_capacity : goal.returns-in_err-reserve_tables-clause-aux_capacity
returns-in_err-reserve_tables-clause-aux_capacity c = λ n. at_least_same (capacities_at c.args.aux.now.items n)
