use Rattle.std.proofs.Common.{◌≡◌}
use Rattle.cell_changes.specs.Growing.{no_changes}
use Rattle.cell_changes.proofs.adding.no_changes.Given as goal

abbrev pub invariant-loop : goal.invariant-loop
invariant-loop l = l.made.items ≡ no_changes l.counter
