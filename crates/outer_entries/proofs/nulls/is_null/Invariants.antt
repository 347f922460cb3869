use Rattle.std.proofs.Common.{◌≡◌, drop}
use Rattle.outer_law.specs.Placed.{is_null}
use Rattle.outer_entries.proofs.nulls.is_null.Given as goal

abbrev pub invariant-loop-value : goal.invariant-loop-value
invariant-loop-value l = is_null (drop l.value-index l.values) ≡ is_null l.values
