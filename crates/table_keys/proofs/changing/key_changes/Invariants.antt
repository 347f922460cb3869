use Rattle.std.proofs.Common.{◌≡◌, take}
use Rattle.table_keys.specs.Keys.{keyed_changes}
use Rattle.table_keys.proofs.changing.key_changes.Given as goal

abbrev pub invariant-loop-change : goal.invariant-loop-change
invariant-loop-change l = l.made ≡ keyed_changes l.columns (take l.change-index l.changes)
