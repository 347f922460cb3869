use Rattle.std.proofs.Common.{ap}
use Rattle.std.specs.Option.{option_map_or}
use Rattle.layout_planner.specs.declared.planning.TableCount.{TableCount}
use Rattle.layout_planner.proofs.reckoning.count_of.Goals as goal

pub returns-in-Some : goal.returns-in-Some
returns-in-Some c = ap (λ o. option_map_or (λ (k : TableCount). k.count) o 0) c.in-Some.ensures

pub returns-in-None : goal.returns-in-None
returns-in-None c = ap (λ o. option_map_or (λ (k : TableCount). k.count) o 0) c.in-None.ensures
