use Rattle.std.proofs.Common.{◌≡◌, ℕ, [], take}
use Rattle.version_graph.specs.Sets.{In}
use Rattle.version_model.specs.Kept.{auxes_at}
use Rattle.write_plans.proofs.alone.are_bare.Given as goal

abbrev pub invariant-loop-number : goal.invariant-loop-number
invariant-loop-number l = (n : ℕ) → In n (take l.number-index l.numbers) → auxes_at l.kept n ≡ []
