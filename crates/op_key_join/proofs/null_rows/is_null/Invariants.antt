use Rattle.std.proofs.Common.{◌≡◌, drop}
use Rattle.op_key_join.specs.Nulls.{is_null}
use Rattle.op_key_join.proofs.null_rows.is_null.Given as goal

abbrev pub invariant-loop-value : goal.invariant-loop-value
invariant-loop-value l = is_null (drop l.value-index l.values) ≡ is_null l.values
