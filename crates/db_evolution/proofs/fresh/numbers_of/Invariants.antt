use Rattle.std.proofs.Common.{◌≡◌, take}
use Rattle.version_model.specs.Kept.{numbers_in}
use Rattle.db_evolution.proofs.fresh.numbers_of.Given as goal

abbrev pub invariant-loop-item : goal.invariant-loop-item
invariant-loop-item g l = l.numbers ≡ numbers_in (take l.item-index l.items)
