use Rattle.layout_planner.specs.Best.{numbers_of}
use Rattle.layout_planner.proofs.BestLemmas.{Leads}
use Rattle.layout_planner.proofs.cheapest.first_least.Given as goal

abbrev pub invariant-loop-place : goal.invariant-loop-place
invariant-loop-place l = Leads (numbers_of l.costs) l.place l.at l.least
