use Rattle.std.proofs.Common.{◌≡◌, take}
use Rattle.version_model.specs.Kept.{numbers_in}
use Rattle.db_evolution.proofs.fresh.memories_for.Given as goal

abbrev pub invariant-loop-number : goal.invariant-loop-number
invariant-loop-number l = numbers_in l.made ≡ take l.number-index l.numbers
