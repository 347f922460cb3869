use Rattle.std.proofs.Common.{◌≡◌, ◌+◌, ◌≤◌, take}
use Rattle.ordinary_table.specs.Written.{sets_of, set_row}
use Rattle.ordinary_table.proofs.update.set_values.Given as goal

abbrev pub invariant-loop-set : goal.invariant-loop-set
invariant-loop-set g l = (l.values.items ≡ set_row (sets_of (take l.set-index l.sets)) l.row) × (l.steps ≤ l.fn.steps + l.set-index)
