use Rattle.std.proofs.Common.{◌≡◌, true, take}
use Rattle.std.specs.List.{list_all}
use Rattle.layout_rules.specs.Lookups.{stores_found}
use Rattle.layout_rules.proofs.closing.refuse_unstored.Given as goal

abbrev pub invariant-loop-target : goal.invariant-loop-target
invariant-loop-target g l = list_all (stores_found l.graph l.layout) (take l.target-index l.named) ≡ true
